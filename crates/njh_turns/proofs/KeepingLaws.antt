-- What is kept, and what a crash may leave: a keeper that follows steps, settles, and is called again.
use Rattle.std.proofs.Common.{◌≡◌, ℕ, ◌<◌, ◌≤◌, List, [], length, set, Result, Ok, Err, ap, ◌∙◌, arith, inl}
use Rattle.std.specs.Prelude.{IsErr, OnOk, OnErr}
use Rattle.std.proofs.lemmas.List.{get_or-map, length-set}
use Rattle.njh_hub.specs.Sent.{IsCounted}
use Rattle.njh_hub.specs.WholeHub.{Part, no_part, hub_run}
use Rattle.njh_hub.proofs.NamedLaws.{hub_run-length}
use Rattle.njh_hub.proofs.RunLaws.{each_is_alone}
use Rattle.njh_hub.proofs.RunningLaws.{counted_from}
use Rattle.njh_turns.specs.Keeping.{KeeperSays, IsSettled, LeavesEither, LeavesNoMore, LeavesOnly, Follows, Keeps}
use Rattle.njh_turns.specs.Keeping.{KeptIsOwn}
use Rattle.njh_turns.specs.Keeping.{kept_files}

-- a result that doesn't matter
pub on_ok : {T E P : Type 0} (r : Result T E) → P → OnOk r P
on_ok (Ok x) p = p
on_ok (Err e) p = cc

pub on_err : {T E P : Type 0} (r : Result T E) → P → OnErr r P
on_err (Ok x) p = cc
on_err (Err e) p = p

-- and none goes
pub still_there : (parts new : List Part) (c : ℕ) (after : Part) → new ≡ set parts c after → c < length parts
    → c < length new
still_there parts new c after is there = omega
    (arith, there, ap (λ (ps : List Part). length ps) is, length-set parts c after)

-- what a crash leaves behind a call that keeps nothing more
pub leaves_only : {K : Type 0} (says : KeeperSays K) (keeper new_keeper : K)
    (parts : List Part) →
    LeavesOnly (says.may_leave keeper) parts → LeavesNoMore says keeper new_keeper →
    LeavesOnly (says.may_leave new_keeper) parts
leaves_only says keeper new_keeper parts only no_more = λ left now. only left (no_more left now)

-- behind one call and then another
pub no_more_then : {K : Type 0} (says : KeeperSays K) (a b c : K)
    → LeavesNoMore says a b →
    LeavesNoMore says b c → LeavesNoMore says a c
no_more_then says a b c first then = λ left now. first left (then left now)

pub either_of_only : {K : Type 0} (says : KeeperSays K) (keeper : K)
    (before behind : List Part) →
    LeavesOnly (says.may_leave keeper) before → LeavesEither (says.may_leave keeper) before behind
either_of_only says keeper before behind only = λ left now. inl (only left now)

-- ---- turns

-- the keeper was called before
pub follows_on : {K A E : Type 0} (says : KeeperSays K)
    (first keeper new_keeper : K) (result : Result A E) (parts : List Part) → LeavesNoMore says first keeper →
    says.count keeper ≡ says.count first → Follows says keeper result parts new_keeper →
    Follows says first result parts new_keeper
follows_on says first keeper new_keeper (Ok x) parts no_more before k = record {
  known = k.known;
  leaves = no_more_then says first keeper new_keeper no_more k.leaves;
  faultless = k.faultless ∙ before;
  counts = omega (arith, before, k.counts);
  counted = cc;
}
follows_on says first keeper new_keeper (Err e) parts no_more before k = record {
  known = cc;
  leaves = no_more_then says first keeper new_keeper no_more k.leaves;
  faultless = cc;
  counts = omega (arith, before, k.counts);
  counted = counted_from (says.count first) (says.count keeper) (says.count new_keeper)
      (omega (arith, before)) k.counted;
}

-- all went well
pub follows_well : {K A E : Type 0} (says : KeeperSays K)
    (keeper new_keeper : K) (x : A) (parts : List Part) → says.knows new_keeper parts
    → LeavesNoMore says keeper new_keeper →
    says.count new_keeper ≡ says.count keeper → Follows {K = K} {A = A} {E = E} says keeper (Ok x) parts new_keeper
follows_well says keeper new_keeper x parts known no_more faultless = record {
  known = known;
  leaves = no_more;
  faultless = faultless;
  counts = omega (arith, faultless);
  counted = cc;
}

-- the keeper failed
pub follows_ill : {K A E : Type 0} (says : KeeperSays K)
    (keeper new_keeper : K) (e : E) (parts : List Part) → LeavesNoMore says keeper new_keeper →
    says.count keeper ≤ says.count new_keeper → IsCounted (says.count keeper) (says.count new_keeper) →
    Follows {K = K} {A = A} {E = E} says keeper (Err e) parts new_keeper
follows_ill says keeper new_keeper e parts no_more counts counted = record {
  known = cc;
  leaves = no_more;
  faultless = cc;
  counts = counts;
  counted = counted;
}

pub follows_refused : {K A E : Type 0} (says : KeeperSays K)
    (keeper new_keeper : K) (r : Result A E) → IsErr r → (parts : List Part) → LeavesNoMore says keeper new_keeper →
    says.count keeper ≤ says.count new_keeper → IsCounted (says.count keeper) (says.count new_keeper) →
    Follows {K = K} {A = A} {E = E} says keeper r parts new_keeper
follows_refused says keeper new_keeper (Ok x) is parts no_more counts counted = cc
follows_refused says keeper new_keeper (Err e) is parts no_more counts counted =
    follows_ill says keeper new_keeper e parts no_more counts counted

-- ---- rounds

-- all went well
pub keeps_well : {K A E : Type 0} (says : KeeperSays K)
    (keeper new_keeper : K) (x : A) (parts : List Part) → IsSettled says new_keeper parts →
    says.count new_keeper ≡ says.count keeper → Keeps {K = K} {A = A} {E = E} says keeper (Ok x) parts new_keeper
keeps_well says keeper new_keeper x parts settled faultless = record {
  settled = settled;
  faultless = faultless;
  counts = omega (arith, faultless);
  counted = cc;
}

-- the keeper failed
pub keeps_ill : {K A E : Type 0} (says : KeeperSays K)
    (keeper new_keeper : K) (e : E) (parts : List Part) → says.count keeper ≤ says.count new_keeper →
    IsCounted (says.count keeper) (says.count new_keeper) →
    Keeps {K = K} {A = A} {E = E} says keeper (Err e) parts new_keeper
keeps_ill says keeper new_keeper e parts counts counted = record {
  settled = cc;
  faultless = cc;
  counts = counts;
  counted = counted;
}

pub keeps_refused : {K A E : Type 0} (says : KeeperSays K)
    (keeper new_keeper : K) (r : Result A E) → IsErr r → (parts : List Part) →
    says.count keeper ≤ says.count new_keeper → IsCounted (says.count keeper) (says.count new_keeper) →
    Keeps {K = K} {A = A} {E = E} says keeper r parts new_keeper
keeps_refused says keeper new_keeper (Ok x) is parts counts counted = cc
keeps_refused says keeper new_keeper (Err e) is parts counts counted =
    keeps_ill says keeper new_keeper e parts counts counted

-- it followed turns, and then it was to settle
pub keeps_settled : {K A E : Type 0} (says : KeeperSays K) (keeper mid new_keeper : K) (result : Result A E)
    (parts : List Part) → says.count mid ≡ says.count keeper →
    says.knows mid parts → OnOk result ((parts : List Part) → says.knows mid parts → IsSettled says new_keeper parts) →
    OnOk result (says.count new_keeper ≡ says.count mid) → says.count mid ≤ says.count new_keeper →
    OnErr result (IsCounted (says.count mid) (says.count new_keeper)) → Keeps says keeper result parts new_keeper
keeps_settled says keeper mid new_keeper (Ok x) parts before known settled faultless counts counted =
    keeps_well says keeper new_keeper x parts (settled parts known) (faultless ∙ before)
keeps_settled says keeper mid new_keeper (Err e) parts before known settled faultless counts counted =
    keeps_ill says keeper new_keeper e parts (omega (arith, before, counts))
    (counted_from (says.count keeper) (says.count mid) (says.count new_keeper) (omega (arith, before)) counted)

-- ---- the law

pub kept_is_own : KeptIsOwn
kept_is_own c parts events there =
    let own = each_is_alone c parts events there in
    let led = (hub_run parts events).parts in
    let within : c < length led = omega (arith, there, hub_run-length parts events) in (
      get_or-map kept_files led c no_part [] within ∙ ap kept_files own.after,
      own.sent,
    )
