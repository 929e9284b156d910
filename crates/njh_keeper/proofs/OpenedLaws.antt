-- A customer's files after the opening.
use Rattle.njh_keeper.proofs.Words
use Words.{◌≡◌, ℕ, Bool, true, false, cond, ◌&&◌, ◌||◌, List, [], ◌∷◌, ◌++◌, map, refl, sym, ap, subst, append_assoc}
use Words.{append-nil, ◌∙◌, map-append, AllByRecursion, Kind, Stored, destination_of, Whole, CustomerEntry, WholeFile}
use Words.{Ready, Held, KeptFile, state_back, destination_unrouted, has_lost_route, held_file, waits_in_state}
use Words.{part_with_file, Part, part_at_open, AreBack, part_opened, HasOpened, OpenedFile, as_opened, opened_of}
use Words.{Option, Some, None, option_map, fold, CustomerSpool, RestoreFault, BadHeader, FilesOver, QuotaOver}
use Words.{has_blocks_for, has_headers, restore_fault, FileFault, BadFile, Refused, file_in, with_whole}
use Rattle.{njh_spool.specs.CustomerSpool.{next_number, has_file_room}, njh_keeper.proofs.FileLaws.by_restore}
use Rattle.njh_keeper.proofs.NumberedLaws.{all-push}

-- ---- one of them

-- its headers read, and there is room for a file more, and for its blocks
pub record Fits (f : KeptFile) (s : CustomerSpool) : Type 0 where
  pub headers : has_headers f.kind f.records ≡ true
  pub room : has_file_room s ≡ true
  pub blocks : has_blocks_for f.records s ≡ true

pub fits_in : (f : KeptFile) (s : CustomerSpool) → restore_fault f s ≡ None → Fits f s
fits_in f s none = by (has_headers f.kind f.records) (has_file_room s) (has_blocks_for f.records s) refl refl refl none
  where
    by : (a b c : Bool) → has_headers f.kind f.records ≡ a → has_file_room s ≡ b → has_blocks_for f.records s ≡ c
        → cond a (cond b (cond c None (Some QuotaOver)) (Some FilesOver)) (Some BadHeader) ≡ None → Fits f s
    by true true true headers room blocks none = record { headers = headers; room = room; blocks = blocks }
    by true true false headers room blocks none = absurd (cc none)
    by true false c headers room blocks none = absurd (cc none)
    by false b c headers room blocks none = absurd (cc none)

-- ---- all of them

-- These files of a hub came back, each the last one, and lead from one part to the other.
pub data ArePutBack : List Whole → List KeptFile → Part → Part → Type 0 where
  none_left : (p : Part) → ArePutBack [] [] p p
  one_back : (w : Whole) (ws : List Whole) (f : KeptFile) (fs : List KeptFile) (p q : Part)
      → file_in w.file w.records ≡ Some f → restore_fault f p.customer.spool ≡ None
      → ArePutBack ws fs (part_with_file f p) q → ArePutBack (w ∷ ws) (f ∷ fs) p q

abbrev back_by : Part → Option KeptFile → Part
back_by p o = elim o [ None ↦ p | Some f ↦ part_with_file f p ]

pub put_back : (ws : List Whole) (p : Part) → AreBack p ws
    → (fs : List KeptFile) × ArePutBack ws fs p (fold with_whole p ws)
put_back [] p back = ([], none_left p)
put_back (w ∷ ws) p back =
    at_file (file_in w.file w.records) refl back.0 (put_back ws (with_whole p w) back.1)
  where
    not_refused : (o : Option RestoreFault) → ◌≡◌ {A = Option FileFault} (option_map Refused o) None → o ≡ None
    not_refused None none = refl
    not_refused (Some fault) none = absurd (cc none)

    at_file : (o : Option KeptFile) → file_in w.file w.records ≡ o → elim o as (λ _. Option FileFault)
        [ None ↦ Some BadFile | Some f ↦ option_map Refused (restore_fault f p.customer.spool) ] ≡ None
        → (fs : List KeptFile) × ArePutBack ws fs (back_by p o) (fold with_whole (back_by p o) ws)
        → (fs : List KeptFile) × ArePutBack (w ∷ ws) fs p (fold with_whole (back_by p o) ws)
    at_file None is told more = absurd (cc told)
    at_file (Some f) is told more = (
      f ∷ more.0,
      one_back w ws f more.0 p (fold with_whole (part_with_file f p) ws) is
          (not_refused (restore_fault f p.customer.spool) told) more.1,
    )

pub back_with : (w : Whole) (ws : List Whole) (f : KeptFile) (p : Part) → file_in w.file w.records ≡ Some f
    → restore_fault f p.customer.spool ≡ None → AreBack (part_with_file f p) ws → AreBack p (w ∷ ws)
back_with w ws f p is none more =
    (by_restore p w.file w.records f None is none, subst (λ (q : Part). AreBack q ws) (sym (ap (back_by p) is)) more)

pub which_are : (ws : List Whole) (fs : List KeptFile) (p q : Part) → ArePutBack ws fs p q
    → map (λ w. file_in w.file w.records) ws ≡ map Some fs
which_are _ _ p _ (none_left _) = refl
which_are _ _ p q (one_back w ws f fs _ _ is none more) =
    λ i. is i ∷ which_are ws fs (part_with_file f p) q more i

-- what stays so where one comes back stays so where all do
pub stays_so : (P : Part → Type 0)
    → ((f : KeptFile) (p : Part) → restore_fault f p.customer.spool ≡ None → P p → P (part_with_file f p))
    → (ws : List Whole) (fs : List KeptFile) (p q : Part) → ArePutBack ws fs p q → P p → P q
stays_so P one _ _ p _ (none_left _) so = so
stays_so P one _ _ p q (one_back w ws f fs _ _ is none more) so =
    stays_so P one ws fs (part_with_file f p) q more (one f p none so)

-- ---- the last file

abbrev pub held_back : CustomerEntry → WholeFile → WholeFile
held_back entry f = cond (has_lost_route entry f) (held_file f) f

abbrev Routed : CustomerEntry → WholeFile → Type 0
Routed entry f = has_lost_route entry f ≡ false

stays : (entry : CustomerEntry) (fs : List WholeFile) → AllByRecursion (Routed entry) fs → map (held_back entry) fs ≡ fs
stays entry [] all = refl
stays entry (f ∷ fs) all = λ i. cond (all.0 i) (held_file f) f ∷ stays entry fs all.1 i

abbrev pub file : ℕ → Kind → List Stored → Bool → WholeFile
file n kind records held = record { number = n; kind = kind; records = records; state = state_back held }

-- Held where it was or has no route, and else Ready
state_is : (n : ℕ) (kind : Kind) (records : List Stored) (held unrouted : Bool)
    → ◌≡◌ {A = OpenedFile} (opened_of (cond (waits_in_state (state_back held) && unrouted)
    (held_file (file n kind records held)) (file n kind records held)))
    (record { kind = kind; records = records; state = cond (held || unrouted) Held Ready })
state_is n kind records true unrouted = refl
state_is n kind records false true = refl
state_is n kind records false false = refl

routed : (entry : CustomerEntry) (n : ℕ) (kind : Kind) (records : List Stored) (held unrouted : Bool)
    → destination_unrouted entry (destination_of kind records) ≡ unrouted
    → Routed entry (cond (waits_in_state (state_back held) && unrouted) (held_file (file n kind records held))
    (file n kind records held))
routed entry n kind records true unrouted is = refl
routed entry n kind records false true is = refl
routed entry n kind records false false is = is

-- ---- all files

-- files more after those of a part, and nothing else
record Follow (entry : CustomerEntry) (files : List KeptFile) (p q : Part) : Type 0 where
  whole : map opened_of q.customer.spool.whole ≡ map opened_of p.customer.spool.whole ++ map (as_opened entry) files
  partial : q.customer.spool.partial ≡ p.customer.spool.partial
  entry_is : q.customer.entry ≡ p.customer.entry
  lines : q.customer.lines ≡ p.customer.lines
  rests : q.rests ≡ p.rests

module _ (p : Part) (f : KeptFile) where
  abbrev entry : CustomerEntry
  entry = p.customer.entry

  abbrev pub new : WholeFile
  new = file (next_number p.customer.spool) f.kind f.records f.held

  whole_is : AllByRecursion (Routed entry) p.customer.spool.whole
      → (part_with_file f p).customer.spool.whole ≡ p.customer.spool.whole ++ held_back entry new ∷ []
  whole_is all =
      map-append (held_back entry) p.customer.spool.whole (new ∷ [])
      ∙ ap (λ (fs : List WholeFile). fs ++ held_back entry new ∷ []) (stays entry p.customer.spool.whole all)

  still_routed : AllByRecursion (Routed entry) p.customer.spool.whole
      → AllByRecursion (Routed entry) (part_with_file f p).customer.spool.whole
  still_routed all =
      subst (AllByRecursion (Routed entry)) (sym (whole_is all))
      (all-push (Routed entry) p.customer.spool.whole (held_back entry new) all
      (routed entry (next_number p.customer.spool) f.kind f.records f.held
      (destination_unrouted entry (destination_of f.kind f.records)) refl))

  shown : AllByRecursion (Routed entry) p.customer.spool.whole
      → map opened_of (part_with_file f p).customer.spool.whole ≡ map opened_of p.customer.spool.whole ++ as_opened
      entry f ∷ []
  shown all =
      ap (map opened_of) (whole_is all) ∙ map-append opened_of p.customer.spool.whole (held_back entry new ∷ [])
      ∙ ap (λ (x : OpenedFile). map opened_of p.customer.spool.whole ++ x ∷ [])
      (state_is (next_number p.customer.spool) f.kind f.records f.held
      (destination_unrouted entry (destination_of f.kind f.records)))

follow : (ws : List Whole) (fs : List KeptFile) (p q : Part) → ArePutBack ws fs p q
    → AllByRecursion (Routed p.customer.entry) p.customer.spool.whole → Follow p.customer.entry fs p q
follow _ _ p _ (none_left _) all = record {
  whole = sym (append-nil (map opened_of p.customer.spool.whole));
  partial = refl;
  entry_is = refl;
  lines = refl;
  rests = refl;
}
follow _ _ p q (one_back w ws f fs _ _ is none more) all =
    let rest = follow ws fs (part_with_file f p) q more (still_routed p f all) in
    record {
      whole = rest.whole ∙ ap (λ (xs : List OpenedFile). xs ++ map (as_opened p.customer.entry) fs) (shown p f all)
          ∙ append_assoc (map opened_of p.customer.spool.whole) (as_opened p.customer.entry f ∷ [])
          (map (as_opened p.customer.entry) fs);
      partial = rest.partial;
      entry_is = rest.entry_is;
      lines = rest.lines;
      rests = rest.rests;
    }

pub opened_files : (entry : CustomerEntry) (ws : List Whole) → AreBack (part_at_open entry) ws
    → HasOpened entry ws (part_opened entry ws)
opened_files entry ws back =
    let put = put_back ws (part_at_open entry) back in
    let h = follow ws put.0 (part_at_open entry) (part_opened entry ws) put.1 tt in
    record {
      files = put.0;
      all = which_are ws put.0 (part_at_open entry) (part_opened entry ws) put.1;
      whole = h.whole;
      partial = h.partial;
      entry_is = h.entry_is;
      lines = h.lines;
      rests = h.rests;
    }
