-- What is shown of a whole file: its headers read, so it has a name, an owner and a destination.
use Rattle.std.proofs.Common.{◌≡◌, ℕ, Bool, true, false, cond, ◌==◌, List, [], ◌∷◌, All, find, Option, Some, None}
use Rattle.std.proofs.Common.{IsSome, is_some}
use Rattle.std.proofs.Common.{refl, ap, subst}
use Rattle.std.specs.Option.{option_map}
use Rattle.std.specs.Result.{result_ok}
use Rattle.std.proofs.lemmas.List.Elements.{All-head, All-tail}
use Rattle.njh_header.specs.WholeFiles.{HasHeaders}
use Rattle.njh_spool.specs.CustomerSpool.{CustomerSpool, WholeFile, whole_numbered}
use Rattle.njh_spool.specs.Headers.{summary}
use Rattle.njh_spool.specs.Spools.{or_no_file}
use Rattle.njh_spool.specs.declared.file_headers.FileHeaders.{FileHeaders}
use Rattle.njh_spool.specs.declared.file_headers.FileSummary.{FileSummary}
use Rattle.njh_stream.specs.WholeFiles.{HaveHeaders}

-- each header says something
pub record SaysAll (h : FileHeaders) : Type 0 where
  pub name : IsSome h.name
  pub owner : IsSome h.owner
  pub destination : IsSome h.destination

-- what holds of all holds of the one that is found
found_one : {X : Type 0} (P : X → Type 0) (p : X → Bool) (xs : List X) (x : X) → All P xs → find p xs ≡ Some x → P x
found_one P p [] x all e = absurd (cc e)
found_one {X} P p (y ∷ ys) x all e = at_test (p y) (found_one P p ys x (All-tail P y ys all)) e
  where
    at_test : (b : Bool) → (find p ys ≡ Some x → P x) → cond b (Some y) (find p ys) ≡ Some x → P x
    at_test true more e = let same : y ≡ x = cc e in subst P same (All-head P y ys all)
    at_test false more e = more e

pub summary_says : (n : ℕ) (s : CustomerSpool) (x : FileSummary) → HaveHeaders s.whole
    → result_ok (or_no_file (option_map summary (whole_numbered n s))) ≡ Some x → SaysAll x.headers
summary_says n s x have told = at_file (whole_numbered n s) refl told
  where
    at_file : (o : Option WholeFile) → whole_numbered n s ≡ o → result_ok (or_no_file (option_map summary o)) ≡ Some x
        → SaysAll x.headers
    at_file None e told = absurd (cc told)
    at_file (Some f) e told =
        let has : HasHeaders f.kind f.records =
        found_one (λ (g : WholeFile). HasHeaders g.kind g.records) (λ g. g.number == n) s.whole f have e in
        let same : summary f ≡ x = cc told in
        subst (λ (y : FileSummary). SaysAll y.headers) same
        (record { name = ap is_some has.named; owner = ap is_some has.owned; destination = ap is_some has.goes })
