-- Bytes that are written in pieces, up to a rest.
use Rattle.std.proofs.Common.{◌≡◌, ℕ, List, ◌++◌, Option, sym, ap, ◌∙◌, append_assoc}
use Rattle.std.specs.Io.KnownBytes.{Appends}
use Rattle.std.proofs.KnownBytes.{Appends-trans}

-- these bytes were written but for the rest
abbrev pub IsWrittenUpTo : (rest bytes : List ℕ) (first last : Option (List ℕ)) → Type 0
IsWrittenUpTo rest bytes first last = (text : List ℕ) × Appends first last text × (text ++ rest ≡ bytes)

pub IsWrittenUpTo-more : (bytes rest front after : List ℕ) (first then last : Option (List ℕ))
    → IsWrittenUpTo rest bytes first then → rest ≡ front ++ after
    → Appends then last front → IsWrittenUpTo after bytes first last
IsWrittenUpTo-more bytes rest front after first then last so_far cut written = (
  so_far.0 ++ front,
  Appends-trans first then last so_far.0 front so_far.1 written,
  append_assoc so_far.0 front after ∙ ap (λ (text : List ℕ). so_far.0 ++ text) (sym cut) ∙ so_far.2,
)
