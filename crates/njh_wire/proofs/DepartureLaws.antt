-- What a connection moves that leaves: what waits goes out, then no more, and what comes is dropped.
use Rattle.std.proofs.Common.{ℕ, List, [], ◌++◌, subst}
use Rattle.std.proofs.lemmas.List.{append-nil}
use Rattle.njh_wire.proofs.MovedLaws.{More}

-- bytes came and are dropped
abbrev pub Drops : {C : Type 0} → (C → C → List ℕ → List ℕ → Type 0) → C → C → Type 0
Drops moved a b = (came : List ℕ) × moved a b came []

-- and then more
pub dropped_then : {C : Type 0} (moved : C → C → List ℕ → List ℕ → Type 0) → More moved → (a b c : C) →
    Drops moved a b → Drops moved b c → Drops moved a c
dropped_then moved more a b c first then =
    (first.0 ++ then.0, more a b c first.0 then.0 [] [] first.1 then.1)

-- bytes went out, then none, and then bytes came
pub gone_on : {C : Type 0} (moved : C → C → List ℕ → List ℕ → Type 0) → More moved → (a b c d : C)
    (came went : List ℕ) → moved a b [] went → moved b c [] [] → moved c d came [] → moved a d came went
gone_on moved more a b c d came went sends shuts drops =
    let Shut : List ℕ → Type 0 = λ out. moved a c [] out in
    let Over : List ℕ → Type 0 = λ out. moved a d came out in
    subst Over (append-nil went)
    (more a c d [] came went [] (subst Shut (append-nil went) (more a b c [] [] went [] sends shuts)) drops)
