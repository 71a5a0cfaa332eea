use Rattle.std.proofs.Common.{◌≡◌, ◌∙◌, ℕ, ◌-◌, ◌<◌, [], List, length, get_or, take, drop, Some, sym, ap, arith}
use Rattle.std.proofs.lemmas.Option.{slice_get-get_or}
use Rattle.rm_disk.specs.Call.{seen_of}
use Rattle.rm_disk.specs.ImageLemmas.{reads_as_image}
use Rattle.rm_disk.specs.Journal.Entries.{gates_from, first_of}
use Rattle.rm_disk.specs.Journal.EntryLemmas.{length-gates_from}
use Rattle.rm_disk.proofs.JournalLemmas.Places.{first_is, start_of, entry_there, entry_within}
use Rattle.rm_disk.proofs.journal.journal.Journal.entry.Goals as goal

pub read_bytes-requires : goal.read_bytes-requires
read_bytes-requires g c tells =
    let up = sym (ap (λ j. j.is_down) c.self.view_is) ∙ c.if-self.false in
    let fits = c.requires.fits tells up in
    let entries = fits.0 in
    let k = c.args.i - 1 in
    let past = (g.D.Disk.told c.args.disk.now).past in
    let bank = c.args.self.now.bank in
    let from : c.self.inside.start ≡ bank.start = ap (λ j. j.bank.start) c.self.view_is in
    let are : c.deref.result.now ≡ gates_from bank.start entries =
    c.deref.ensures.value
    ∙ ap (λ j. j.gates) c.self.view_is
    ∙ fits.1.gates in
    let below : k < length entries = omega (
      arith,
      c.requires.number.0,
      c.requires.number.1,
      ap length fits.1.gates,
      length-gates_from bank.start entries,
    ) in
    let here : c.deref.result.now ≡ gates_from c.self.inside.start entries =
    are ∙ ap (λ (n : ℕ). gates_from n entries) (sym from) in
    let place : c.span_of-start.result.0 ≡ start_of bank.start entries k =
    c.span_of-start.ensures.place entries here
    ∙ ap (λ (n : ℕ). first_of n c.deref.result.now k) from
    ∙ ap (λ (l : List ℕ). first_of bank.start l k) are
    ∙ first_is bank.start entries k below in
    let has = fits.1.images (seen_of past) (reads_as_image past) in
    omega (
      arith,
      place,
      c.span_of-start.ensures.size entries here,
      entry_within bank entries (seen_of past) k below has,
    )

pub returns-in-Ok-clause-value : goal.returns-in-Ok-clause-value
returns-in-Ok-clause-value g c tells entries fits =
    let k = c.args.i - 1 in
    let past = (g.D.Disk.told c.args.disk.now).past in
    let bank = c.args.self.now.bank in
    let from : c.self.inside.start ≡ bank.start = ap (λ j. j.bank.start) c.self.view_is in
    let are : c.deref.result.now ≡ gates_from bank.start entries =
    c.deref.ensures.value
    ∙ ap (λ j. j.gates) c.self.view_is
    ∙ fits.gates in
    let below : k < length entries = omega (
      arith,
      c.requires.number.0,
      c.requires.number.1,
      ap length fits.gates,
      length-gates_from bank.start entries,
    ) in
    let here : c.deref.result.now ≡ gates_from c.self.inside.start entries =
    are ∙ ap (λ (n : ℕ). gates_from n entries) (sym from) in
    let place : c.span_of-start.result.0 ≡ start_of bank.start entries k =
    c.span_of-start.ensures.place entries here
    ∙ ap (λ (n : ℕ). first_of n c.deref.result.now k) from
    ∙ ap (λ (l : List ℕ). first_of bank.start l k) are
    ∙ first_is bank.start entries k below in
    let has = fits.images (seen_of past) (reads_as_image past) in
    let read = rw c.in-Ok.is at c.read_bytes.ensures.gives tells in
    let bytes : c.from_vec.result ≡ get_or entries k [] =
    c.from_vec.ensures
    ∙ read
    ∙ ap (λ (n : ℕ). take n (drop c.span_of-start.result.0 (seen_of past)))
    (c.span_of-start.ensures.size entries here)
    ∙ ap (λ (n : ℕ). take (length (get_or entries k [])) (drop n (seen_of past))) place
    ∙ entry_there bank entries (seen_of past) k below has in
    slice_get-get_or entries k [] below ∙ ap (λ (b : List ℕ). Some b) (sym bytes)
