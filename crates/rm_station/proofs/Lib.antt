mod AcceptLemmas
mod CallLemmas
mod OutLemmas
mod ReadLemmas
mod RunLemmas
mod SaidLemmas
