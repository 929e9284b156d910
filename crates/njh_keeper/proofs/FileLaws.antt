-- A whole file of a spool file, as a hub has it.
use Rattle.njh_keeper.proofs.Words
use Words.{◌≡◌, ℕ, zero, suc, get_or, ◌+◌, ◌<◌, ◌≤◌, ◌==◌, nat_lt, nat_le, true, cond, ◌&&◌, List, [], ◌∷◌, length, map}
use Words.{Option, Some, None, option_map, Result, Ok, Err, IsOk, refl, sym, ap, subst, ◌∙◌, arith, and_parts}
use Words.{nat_tests, AllByRecursion, Kind, Stored, StoredRecord, File, contents_of, RestoreFault, KeptFile}
use Words.{restore_fault, Part, BadFile, Refused, Contents, as_stored, are_records_from, are_records_of, file_in}
use Words.{file_fault, is_record_at, kind_of_word, records_now, whole_records}
use Rattle.std.{proofs.Common.MatchOption, specs.Prelude.slice_get}

-- ---- its records fit

abbrev pub Fits-record : StoredRecord → Type 0
Fits-record r = (r.srcb < 256) × (length r.bytes.items ≤ 256)

fits_one : (place : ℕ) (r : StoredRecord) → is_record_at place (contents_of r) ≡ true → Fits-record r
fits_one place r is =
    let rest = (and_parts (r.place == place) (nat_lt r.srcb 256 && nat_le (length r.bytes.items) 256) is).1 in
    let each = and_parts (nat_lt r.srcb 256) (nat_le (length r.bytes.items) 256) rest in
    (grind (arith, nat_tests, each.0), grind (arith, nat_tests, each.1))

pub fits_each : (place : ℕ) (rs : List StoredRecord) → are_records_from place (map contents_of rs) ≡ true
    → AllByRecursion Fits-record rs
fits_each place [] is = tt
fits_each place (r ∷ rs) is =
    let each = and_parts (is_record_at place (contents_of r)) (are_records_from (place + 1) (map contents_of rs)) is in
    (fits_one place r each.0, fits_each (place + 1) rs each.1)

-- ---- as a hub has it

abbrev pub as_kept : File → Kind → List Stored → KeptFile
as_kept file kind now = record { kind = kind; held = file.held; records = now }

pub is_whole : (file : File) (records : List Contents) (kind : Kind) → are_records_of file records ≡ true
    → whole_records kind file records ≡ records_now kind file.to_node (map as_stored records)
is_whole file records kind all = ap (λ b. cond b (records_now kind file.to_node (map as_stored records)) None) all

-- by its kind
abbrev pub by_kind : File → List Contents → Option Kind → Option KeptFile
by_kind file records None = None
by_kind file records (Some kind) = option_map (as_kept file kind) (whole_records kind file records)

pub is_file : (file : File) (records : List Contents) (kind : Kind) (now : List Stored)
    → kind_of_word file.kind ≡ Some kind → whole_records kind file records ≡ Some now
    → file_in file records ≡ Some (as_kept file kind now)
is_file file records kind now word are =
    ap (by_kind file records) word ∙ ap (option_map (as_kept file kind)) are

-- ---- why it isn't put back

pub by_restore : (p : Part) (file : File) (records : List Contents) (f : KeptFile) (fault : Option RestoreFault)
    → file_in file records ≡ Some f
    → restore_fault f p.customer.spool ≡ fault → file_fault p file records ≡ option_map Refused fault
by_restore p file records f fault is told =
    ap (λ (o : Option KeptFile). elim o [
      | None ↦ Some BadFile
      | Some g ↦ option_map Refused (restore_fault g p.customer.spool)
    ]) is ∙ ap (option_map Refused) told

pub no_fault : {E : Type 0} (o : Option E) (r : Result (Unit {0}) E) (x : Unit {0})
    → MatchOption o (IsOk r) (λ fault. r ≡ Err fault) → r ≡ Ok x → o ≡ None
no_fault None r x told is = refl
no_fault {E} (Some fault) r x told is = absurd
    (let h : ◌≡◌ {A = Result (Unit {0}) E} (Err fault) (Ok x) = sym told ∙ is in cc)

pub this_fault : {E : Type 0} (o : Option E) (r : Result (Unit {0}) E) (fault : E)
    → MatchOption o (IsOk r) (λ told. r ≡ Err told) → r ≡ Err fault → o ≡ Some fault
this_fault {E} None r fault told is = absurd (let h = subst (λ (x : Result (Unit {0}) E). IsOk x) is told in cc)
this_fault {E} (Some other) r fault told is = let h : ◌≡◌ {A = Result (Unit {0}) E} (Err other) (Err fault) =
    sym told ∙ is in cc

-- a record by its place
pub got : (rs : List StoredRecord) (n : ℕ) (r : StoredRecord) → n < length rs → r ≡ get_or rs n r
    → slice_get (map as_stored (map contents_of rs)) n ≡ Some (as_stored (contents_of r))
got [] n r there is = absurd (omega (arith, there))
got (x ∷ rs) zero r there is = ap (λ (y : StoredRecord). Some (as_stored (contents_of y))) (sym is)
got (x ∷ rs) (suc n) r there is = got rs n r (omega (arith, there)) is
