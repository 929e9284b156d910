-- Pieces that a reader gave.
use Rattle.std.proofs.Common.{◌≡◌, ℕ, List, [], ◌++◌, Option, Result, Ok, None, Some, ap, sym, ◌∙◌, subst, ◌<◌, ◌≤◌}
use Rattle.std.proofs.Common.{length, take}
use Rattle.std.specs.Prelude.{MatchOption}
use Rattle.std.specs.Io.KnownBytes.{Consumes, IsAtEnd, ReadConsumes}
use Rattle.std.proofs.KnownBytes.{Consumes-trans}

-- a read that gave nothing came to the end
pub at_end : (now later : Option (List ℕ)) (bytes : List ℕ) → Consumes now later bytes → bytes ≡ [] → IsAtEnd later
    → IsAtEnd now
at_end None later bytes read none end = tt
at_end (Some xs) None bytes read none end = absurd read
at_end (Some xs) (Some ys) bytes read none end = read ∙ ap (λ (zs : List ℕ). zs ++ ys) none ∙ end

pub read_nothing : {E : Type 0} (r : Result ℕ E) (first now later : Option (List ℕ)) (n : ℕ) (buf : List ℕ)
    → Consumes first now []
    → ReadConsumes now later r buf → r ≡ Ok n → n ≡ 0 → 0 < length buf → IsAtEnd first
read_nothing {E} r first now later n buf none read is zero room =
    let P : Result ℕ E → Type 0 = λ x. ReadConsumes {E = E} now later x buf in
    let taken : P (Ok n) = subst P is read in
    at_end first later (take n buf) (Consumes-trans first now later [] (take n buf) none taken.0)
    (ap (λ (k : ℕ). take k buf) zero) (taken.1 zero room)

-- what a read answered
pub end_read : (read : Option ℕ) (now later : Option (List ℕ)) (piece : List ℕ)
    → MatchOption read (IsAtEnd now) (λ count. (count ≤ length piece) × Consumes now later (take count piece))
    → read ≡ None
    → IsAtEnd now
end_read None now later piece said is = said
end_read (Some n) now later piece said is = absurd (cc is)

pub piece_read : (read : Option ℕ) (n : ℕ) (now later : Option (List ℕ)) (piece front : List ℕ)
    → MatchOption read (IsAtEnd now) (λ count. (count ≤ length piece) × Consumes now later (take count piece))
    → read ≡ Some n
    → front ≡ take n piece → Consumes now later front
piece_read None n now later piece front said is at = absurd (cc is)
piece_read (Some m) n now later piece front said is at =
    let same : m ≡ n = cc is in
    subst (Consumes now later) (ap (λ (k : ℕ). take k piece) same ∙ sym at) said.1
