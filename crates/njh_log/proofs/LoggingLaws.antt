-- What goes out of a log.
use Rattle.std.proofs.Common.{◌≡◌, ℕ, zero, suc, ◌+◌, ◌<◌, ◌≤◌, List, [], ◌++◌, length, arith, sym, ◌∙◌, ap, subst}
use Rattle.std.proofs.Common.{refl, append-nil, append_assoc}
use Rattle.std.specs.Prelude.{Option, Some, None, Bool, true, false, min}
use Rattle.std.specs.Bool.{OnTrue, OnFalse}
use Rattle.std.specs.Io.KnownBytes.{Appends}
use Rattle.njh_log.specs.Logging.{Logging, IsTelling, GoesOut, Begins, IsLogged, bytes_out, one_dropped}
use Rattle.njh_log.specs.Logging.{goes_out, only_telling, is_dropped}
use Rattle.njh_log.specs.code.Logs.{Tells, HasTold}

-- bytes behind bytes
pub appends_both : (a b c : Option (List ℕ)) (xs ys : List ℕ) → Appends a b xs → Appends b c ys → Appends a c (xs ++ ys)
appends_both None b c xs ys first second = tt
appends_both (Some held) None c xs ys first second = absurd first
appends_both (Some held) (Some more) None xs ys first second = absurd second
appends_both (Some held) (Some more) (Some most) xs ys first second =
    second ∙ (ap (λ bytes. bytes ++ ys) first ∙ append_assoc held xs ys)

module _ {L : Type 0} (contents : L → Option (List ℕ)) where
  -- one after the other
  pub out_both : (a b c : Logging L) (xs ys : List ℕ) → GoesOut contents a b xs → GoesOut contents b c ys
      → GoesOut contents a c (xs ++ ys)
  out_both a b c xs ys first second = (
    second.0,
    appends_both (bytes_out contents a) (bytes_out contents b) (bytes_out contents c) xs ys first.1 second.1,
  )

  -- bytes, and nothing behind them
  out_then : (a b c : Logging L) (xs : List ℕ) → GoesOut contents a b xs → GoesOut contents b c []
      → GoesOut contents a c xs
  out_then a b c xs first second =
      let P : List ℕ → Type 0 = λ bytes. GoesOut contents a c bytes in
      subst P (append-nil xs) (out_both a b c xs [] first second)

  -- what was left went out first
  pub tells_after : (old mid new : Logging L) (telling : List ℕ) → GoesOut contents old mid []
      → mid.dropped ≡ old.dropped → Tells contents mid new telling → Tells contents old new telling
  tells_after old mid new telling out same tells = record {
    is_telling = let P : ℕ → Type 0 = λ dropped. IsTelling dropped telling in subst P same tells.is_telling;
    out = out_both old mid new [] telling out tells.out;
    less = tells.less;
    begun = λ some. tells.begun (let P : ℕ → Type 0 = λ dropped. 0 < dropped in subst P (sym same) some);
    dropped = tells.dropped;
  }

  -- and nothing of the next line goes out
  told_then : (old mid new : Logging L) (telling : List ℕ) (dropped : ℕ) → old.dropped ≡ dropped
      → IsTelling dropped telling → Tells contents old mid telling → GoesOut contents mid new []
      → length new.left ≤ length mid.left → new.dropped ≡ 0 → IsLogged contents old (one_dropped new)
  told_then old mid new telling zero is told tells out less none =
      let P : List ℕ → Type 0 = λ bytes. GoesOut contents old new bytes in
      let empty : length telling ≡ 0 = ap length told in
      is_dropped (subst P told (out_then old mid new telling tells.out out))
      (omega (arith, empty, less, tells.less))
      (ap (λ count. min (count + 1) 18446744073709551615) (none ∙ sym is))
  told_then old mid new telling (suc dropped) is told tells out less none =
      let P : ℕ → Type 0 = λ count. 0 < count in
      let some : 0 < old.dropped = subst P (sym is) (omega arith) in
      only_telling telling some
      record {
        is_line = told;
        out = out_then old mid new telling tells.out out;
        begun = omega (arith, less, tells.begun some);
      }
      (ap (λ count. min (count + 1) 18446744073709551615) none)

  -- those that were dropped were told of, if any were, and the line is dropped
  pub told_then_dropped : (old mid new : Logging L) (telling : List ℕ) → Tells contents old mid telling
      → GoesOut contents mid new [] → length new.left ≤ length mid.left → new.dropped ≡ mid.dropped
      → IsLogged contents old (one_dropped new)
  told_then_dropped old mid new telling tells out less same =
      told_then old mid new telling old.dropped refl tells.is_telling tells out less (same ∙ tells.dropped)

  -- what a line begins with, once those that were dropped were told of
  pub begins_out : (old mid new : Logging L) (b : Bool) → ((telling : List ℕ) × HasTold contents old mid telling)
      → OnTrue b ((line : List ℕ) × Begins contents mid new [] line) → new.dropped ≡ mid.dropped
      → OnTrue b (IsLogged contents old new)
  begins_out old mid new true told begins same =
      goes_out told.0 begins.0 told.1.tells.is_telling
      record {
        is_line = begins.1.is_line;
        out = out_both old mid new told.0 begins.0 told.1.tells.out begins.1.out;
        begun = begins.1.begun;
      }
      (same ∙ told.1.tells.dropped)
  begins_out old mid new false told begins same = tt

  -- and one that doesn't begin
  pub begins_not : (old mid new : Logging L) (b : Bool) → ((telling : List ℕ) × HasTold contents old mid telling)
      → OnFalse b (GoesOut contents mid new [] × (new.left ≡ [])) → new.dropped ≡ mid.dropped
      → OnFalse b (IsLogged contents old (one_dropped new))
  begins_not old mid new true told gone same = tt
  begins_not old mid new false told gone same =
      let empty : length new.left ≡ 0 = ap length gone.1 in
      told_then_dropped old mid new told.0 told.1.tells gone.0 (omega (arith, empty)) same

  -- they were told of, and some of that is left
  pub not_free : (old mid new : Logging L) (b : Bool) → ((telling : List ℕ) × Tells contents old mid telling)
      → GoesOut contents mid new [] → length new.left ≤ length mid.left → new.dropped ≡ mid.dropped
      → OnFalse b (IsLogged contents old (one_dropped new))
  not_free old mid new true tells out less same = tt
  not_free old mid new false tells out less same = told_then_dropped old mid new tells.0 tells.1 out less same
