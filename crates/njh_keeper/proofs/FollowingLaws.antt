-- Calls of the keeper one after the other, with what is kept of a customer's files.
use Rattle.njh_keeper.proofs.Words
use Words.{◌≡◌, ℕ, zero, suc, ◌<◌, List, [], ◌∷◌, ◌++◌, length, get_or, remove, refl, ◌∙◌, true, AllByRecursion}
use Words.{HasHeaders, SpoolContents, records_of, without_file, WholeFile, is_name_of, GoesTo, HasFiles, Memory, Remain}
use Words.{claim_of, IsQuiet, KeptPartial, KeptWhole, Mirrored, Moves, Sweep, SpoolWriter}
use Rattle.njh_keeper.proofs.{ListLaws.{all_both, all_remove}, MirrorLaws.{all_of, leaving_moves, file_leaves}}
use Rattle.njh_keeper.proofs.{MirrorLaws.{moves_nothing, moves_then, still_apart}, UsesLaws.uses_as_one_leaves}
use Rattle.njh_keeper.specs.code.Following.{leaves, none, stays}

-- a writer that did nothing
pub quiet_same : {S : Type 0} (w : SpoolWriter S) → IsQuiet w w
quiet_same w unchanged = (unchanged, refl)

-- one step after the other
pub quiet_then : {S : Type 0} (old mid new : SpoolWriter S) → IsQuiet old mid → IsQuiet mid new → IsQuiet old new
quiet_then old mid new one more unchanged =
    let late = more unchanged in
    let early = one late.0 in
    (early.0, late.1 ∙ early.1)

-- a whole file changed
pub quiet_changed : {S : Type 0} (old new : SpoolWriter S) → new.is_changed ≡ true → IsQuiet old new
quiet_changed old new changed unchanged = absurd (cc (changed, unchanged))

-- ---- files that aren't whole

pub remain_same : (ps : List KeptPartial) → Remain ps ps
remain_same [] = none
remain_same (p ∷ ps) = stays p ps ps (remain_same ps)

pub remain_removed : (ps : List KeptPartial) (i : ℕ) → Remain ps (remove ps i)
remain_removed [] zero = none
remain_removed [] (suc i) = none
remain_removed (p ∷ ps) zero = leaves p ps ps (remain_same ps)
remain_removed (p ∷ ps) (suc i) = stays p ps (remove ps i) (remain_removed ps i)

pub remain_then : (ps qs rs : List KeptPartial) → Remain ps qs → Remain qs rs → Remain ps rs
remain_then _ _ _ none none = none
remain_then _ _ _ (stays p ps qs one) (stays _ _ rs more) = stays p ps rs (remain_then ps qs rs one more)
remain_then _ _ _ (stays p ps qs one) (leaves _ _ rs more) = leaves p ps rs (remain_then ps qs rs one more)
remain_then _ _ rs (leaves p ps qs one) more = leaves p ps rs (remain_then ps qs rs one more)

pub all_remain : (P : KeptPartial → Type 0) (ps qs : List KeptPartial) → Remain ps qs → AllByRecursion P ps
    → AllByRecursion P qs
all_remain P _ _ none all = tt
all_remain P _ _ (stays p ps qs more) all = (all.0, all_remain P ps qs more all.1)
all_remain P _ _ (leaves p ps qs more) all = all_remain P ps qs more all.1

-- ---- calls

pub goes : (m m' : Memory) (s t : SpoolContents) (files now : List WholeFile) → HasFiles m s files
    → Moves (claim_of m) (claim_of m') s t → Mirrored t m'.own now
    → m'.text ≡ m.text → AllByRecursion (λ f. HasHeaders f.kind f.records) now → Remain m.own.partial m'.own.partial
    → AllByRecursion (λ p. records_of p.key t ≡ records_of p.key s) m'.own.partial → GoesTo m m' s t now
goes m m' s t files now has moves mirrored text headers remain records = record {
  moves = moves;
  has = record {
    ordered = moves.ordered;
    below = moves.below has.below;
    apart = still_apart (claim_of m) (claim_of m') s t moves has.apart;
    named = (λ i. is_name_of (text i) (moves.name i)) ∙ has.named;
    mirrored = mirrored;
    headers = headers;
  };
  remain = remain;
  records = records;
}

pub goes_nowhere : (m : Memory) (s : SpoolContents) (files : List WholeFile) → HasFiles m s files → GoesTo m m s s files
goes_nowhere m s files has = record {
  moves = moves_nothing (claim_of m) s has.ordered;
  has = has;
  remain = remain_same m.own.partial;
  records = all_of (λ (p : KeptPartial). records_of p.key s ≡ records_of p.key s) (λ p. refl) m.own.partial;
}

pub goes_then : (a b c : Memory) (s t u : SpoolContents) (files now : List WholeFile) → GoesTo a b s t files
    → GoesTo b c t u now → GoesTo a c s u now
goes_then a b c s t u files now one more = record {
  moves = moves_then (claim_of a) (claim_of b) (claim_of c) s t u one.moves more.moves;
  has = more.has;
  remain = remain_then a.own.partial b.own.partial c.own.partial one.remain more.remain;
  records = all_both (λ (p : KeptPartial). records_of p.key t ≡ records_of p.key s)
      (λ p. records_of p.key u ≡ records_of p.key t) (λ p. records_of p.key u ≡ records_of p.key s)
      (λ p first next. next ∙ first) c.own.partial
      (all_remain (λ (p : KeptPartial). records_of p.key t ≡ records_of p.key s) b.own.partial c.own.partial more.remain
      one.records) more.records;
}

-- ---- a file is taken out

module _ (m : Memory) (i : ℕ) (k : KeptWhole) (sweep : Sweep) (there : i < length m.own.whole)
    (is : k ≡ get_or m.own.whole i k) (same : sweep.key ≡ k.key) where
  abbrev pub memory_without : Memory
  memory_without = record {
    numbers = m.numbers;
    own = record m.own { whole = remove m.own.whole i; sweeps = m.own.sweeps ++ sweep ∷ [] };
    text = m.text;
  }

  pub file_goes : (s : SpoolContents) (files : List WholeFile) → HasFiles m s files
      → GoesTo m memory_without s (without_file k.id s) (remove files i)
  file_goes s files has =
      goes m memory_without s (without_file k.id s) files (remove files i) has
      (leaving_moves s m.own files has.ordered has.mirrored i k there is (claim_of m) (claim_of memory_without) refl
      refl refl (uses_as_one_leaves m.numbers m.own i k sweep there is same))
      (file_leaves s m.own files has.ordered has.mirrored i k there is) refl
      (all_remove (λ f. HasHeaders f.kind f.records) files i has.headers) (remain_same m.own.partial)
      (all_of (λ (p : KeptPartial). records_of p.key s ≡ records_of p.key s) (λ p. refl) m.own.partial)
