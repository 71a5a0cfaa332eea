mod DetailLemmas
mod SaidLemmas
mod TextLemmas
