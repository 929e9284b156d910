-- What a check says, whole or begun.
use Rattle.std.proofs.Common.{◌≡◌, ◌⊎◌, ℕ, Bool, true, false, List, [], Option, Some, None, Result, Ok, Err, OnErr}
use Rattle.std.proofs.Common.{option_map}
use Rattle.std.proofs.Common.{append-nil, arith, inl, inr, refl, subst, sym}
use Rattle.std.specs.Prelude.{IfErr, MatchResult, OnOk, if◌then◌else◌}
use Rattle.std.specs.Io.KnownBytes.{Appends, Keeps}
use Rattle.std.specs.Str.{IsUtf8, is_utf8}
use Rattle.std.proofs.lemmas.Str.{is_utf8-from_IsUtf8}
use Rattle.njh_check.specs.Checks.{IsReport, Tells}
use Rattle.njh_io.specs.Written.{AppendsBeginning}
use Rattle.njh_table.specs.TableFile.{TableFile}
use Rattle.njh_table.specs.declared.places.PlacedFault.{PlacedFault}
use Rattle.njh_table.specs.Keys.{without_place}
use Rattle.njh_table.specs.Walk.{tables_of, walk_of}
use Rattle.njh_table.specs.declared.fault.TableFault.TheVariants.{BadToml}
use Rattle.njh_subcommands.specs.Checks.{FindsInPart, IsBegunBy, IsCheckEnd}
use Rattle.njh_subcommands.specs.Status.{ComesFirst}
use Rattle.njh_subcommands.specs.TableBytes.{AreGiven, tables_in}
use Rattle.njh_subcommands.specs.TableChecks.{IsSaidOf, IsTablesBegun, IsToldOf, MayTell, no_text_words}
use Rattle.njh_subcommands.specs.declared.failure.Failure.{Failure}

pub beginning_whole : (old new : Option (List ℕ)) (whole : List ℕ) → Appends old new whole
    → AppendsBeginning old new whole
beginning_whole old new whole written = (whole, [], append-nil whole, written)

-- the tables are given if a file is named, however it is named
pub given_by : {P Q : Type 0} (path : Option P) (f : P → Q) (tables : TableFile) → AreGiven (option_map f path) tables
    → AreGiven path tables
given_by None f tables given = given
given_by (Some p) f tables given = given

-- ---- what is said of a table file

-- what is told of the bytes as a text
tells-bytes : (bytes text : List ℕ) (found other : Option PlacedFault) (words : List ℕ) → text ≡ bytes → found ≡ other
    → Tells text found words → Tells bytes other words
tells-bytes bytes text found other words same is told =
    let P : List ℕ → Type 0 = λ b. Tells b found words in
    let Q : Option PlacedFault → Type 0 = λ o. Tells bytes o words in
    subst Q is (subst P same told)

-- of tables that are right, and of a fault
pub told_right : (bytes text : List ℕ) (found : Option PlacedFault) (old new : Option (List ℕ)) → text ≡ bytes
    → IsUtf8 bytes
    → found ≡ None → ((words : List ℕ) × Tells text found words × Appends old new words) → IsToldOf true bytes old new
told_right bytes text found old new same utf8 is t =
    (t.0, (is_utf8-from_IsUtf8 bytes utf8, tells-bytes bytes text found None t.0 same is t.1), t.2)

pub told_fault : (bytes text : List ℕ) (found : Option PlacedFault) (placed : PlacedFault) (old new : Option (List ℕ))
    → text ≡ bytes
    → IsUtf8 bytes → found ≡ Some placed → ((words : List ℕ) × Tells text found words × Appends old new words)
    → IsToldOf false bytes old new
told_fault bytes text found placed old new same utf8 is t = (
  t.0,
  inl (is_utf8-from_IsUtf8 bytes utf8, (placed, tells-bytes bytes text found (Some placed) t.0 same is t.1)),
  t.2,
)

-- a beginning of either
pub begun_of : (bytes text : List ℕ) (found : Option PlacedFault) (words : List ℕ) (old new : Option (List ℕ))
    → text ≡ bytes
    → IsUtf8 bytes → Tells text found words → AppendsBeginning old new words → IsTablesBegun old new
begun_of bytes text None words old new same utf8 told begun =
    (true, bytes, words, (is_utf8-from_IsUtf8 bytes utf8, tells-bytes bytes text None None words same refl told), begun)
begun_of bytes text (Some placed) words old new same utf8 told begun = (
  false,
  bytes,
  words,
  inl (
    is_utf8-from_IsUtf8 bytes utf8,
    (
      placed,
      tells-bytes bytes text (Some placed) (Some placed) words same refl
          told,
    ),
  ),
  begun,
)

pub begun_whole : (right : Bool) (bytes : List ℕ) (old new : Option (List ℕ)) → IsToldOf right bytes old new
    → IsTablesBegun old new
begun_whole right bytes old new told = (right, bytes, told.0, told.1, beginning_whole old new told.0 told.2)

-- of a file that is no text
pub no_text-begun : {T E : Type 0} (r : Result T E) (bytes : List ℕ) (old new : Option (List ℕ)) → is_utf8 bytes ≡ false
    → OnErr r (AppendsBeginning old new no_text_words) → OnErr r (Keeps old new ⊎ IsTablesBegun old new)
no_text-begun (Ok x) bytes old new broken begun = tt
no_text-begun (Err e) bytes old new broken begun = inr (false, bytes, no_text_words, inr (broken, refl), begun)

pub tell_end : {T Path : Type 0} (r : Result T Failure) (path : Option Path) → IfErr r MayTell
    → IfErr r (IsCheckEnd path)
tell_end (Ok x) path ended = tt
tell_end (Err failure) path (inl is) = let P : Failure → Type 0 = λ f. IsCheckEnd path f in subst P (sym is) tt
tell_end (Err failure) path (inr (inl is)) = let P : Failure → Type 0 = λ f. IsCheckEnd path f in subst P (sym is) tt
tell_end (Err failure) path (inr (inr is)) = let P : Failure → Type 0 = λ f. IsCheckEnd path f in subst P (sym is) tt

-- what was begun of a script, by the tables that are given
pub begun_by : {T E Path : Type 0} (r : Result T E) (path : Option Path) (tables : TableFile)
    (old new : Option (List ℕ))
    → AreGiven path tables → OnErr r (Keeps old new ⊎ IsBegunBy tables old new)
    → OnErr r (Keeps old new ⊎ FindsInPart path old new)
begun_by (Ok x) path tables old new given begun = tt
begun_by (Err e) path tables old new given (inl kept) = inl kept
begun_by (Err e) path tables old new given (inr begun) = inr (inl (tables, given, begun))

-- tables that are refused aren't told as right ones
no_tables : (r : Result TableFile PlacedFault) (P : TableFile → Type 0) → OnOk (without_place r) ⊥
    → MatchResult r P (λ _. ⊥) → ⊥
no_tables (Ok t) P refused told = refused
no_tables (Err placed) P refused told = told

pub told_refused : (bytes words : List ℕ) → OnOk (tables_in bytes) ⊥ → IsSaidOf true bytes words → ⊥
unfolding tables_in
told_refused bytes words refused said =
    let P : Bool → Type 0 = λ t. OnOk (if t then tables_of bytes else Err BadToml) ⊥ in
    no_tables (walk_of bytes) (λ t. IsReport bytes t words) (subst P said.0 refused) said.1

pub never_right : {T E : Type 0} (r : Result T E) (bytes : List ℕ) (old new : Option (List ℕ))
    → OnOk (tables_in bytes) ⊥
    → OnOk r (IsToldOf true bytes old new) → OnOk r ⊥
never_right (Ok x) bytes old new refused told = told_refused bytes told.0 refused told.1
never_right (Err e) bytes old new refused told = tt

pub never_ok : {T E : Type 0} (r : Result T E) (P : Type 0) → OnOk r ⊥ → OnOk r P
never_ok (Ok x) P none = absurd none
never_ok (Err e) P none = tt

-- what was begun of tables with a fault
pub begun_told : {T E Path : Type 0} (r : Result T E) (path : Option Path) (old new : Option (List ℕ))
    → OnErr r (Keeps old new ⊎ IsTablesBegun old new) → OnErr r (Keeps old new ⊎ FindsInPart path old new)
begun_told (Ok x) path old new begun = tt
begun_told (Err e) path old new (inl kept) = inl kept
begun_told (Err e) path old new (inr begun) = inr (inr begun)

-- nothing of that comes before anything is written
pub tell_late : {T : Type 0} (r : Result T Failure) (P : Type 0) → IfErr r MayTell
    → IfErr r (λ failure. ComesFirst failure → P)
tell_late (Ok x) P ended = tt
tell_late (Err failure) P (inl is) = let Q : Failure → Type 0 =
    λ f. ComesFirst f → P in subst Q (sym is) (λ first. absurd first)
tell_late (Err failure) P (inr (inl is)) =
    let Q : Failure → Type 0 = λ f. ComesFirst f → P in subst Q (sym is) (λ first. absurd (omega (arith, first)))
tell_late (Err failure) P (inr (inr is)) =
    let Q : Failure → Type 0 = λ f. ComesFirst f → P in subst Q (sym is) (λ first. absurd (omega (arith, first)))
