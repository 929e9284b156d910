-- A row that is read as a file of a hub says what the spool file has of it.
use Rattle.njh_keeper.proofs.Words
use Words.{◌≡◌, ℕ, ◌+◌, ◌==◌, nat_lt, nat_le, ◌&&◌, Bool, true, false, cond, List, [], ◌∷◌, length, map, Option, Some}
use Words.{None, option_map, bytes_eq, refl, sym, ap, subst, ◌∙◌, arith, and_parts, nat_tests, length-map}
use Words.{bytes_decides, AllByRecursion, Kind, In, Out, File, SpoolContents, contents_in, records_of, WholeFile}
use Words.{is_held, FitsHub, contents_from, IsKept, IsStored, KeptWhole, Remembers, Contents, are_records_from, Stored}
use Words.{KeptFile, are_records_of, as_stored, file_in, is_record_at, is_sent, kind_of_word, kind_word, records_now}
use Rattle.njh_keeper.proofs.{FileLaws.by_kind, SentLaws.{are_rerouted, rerouted_long}}
use Rattle.{std.proofs.Common.codes, njh_keeper.proofs.NumberedLaws.equal_to}

pub record IsReadAs (spool : SpoolContents) (file : File) (f : KeptFile) : Type 0 where
  pub kind : file.kind ≡ kind_word f.kind
  pub held : file.held ≡ f.held
  pub count : file.records ≡ length f.records
  pub stored : IsStored spool file.key f.kind file.to_node f.records

-- ---- its records

record AreStored (place : ℕ) (cs : List Contents) : Type 0 where
  are : cs ≡ contents_from place (map as_stored cs)
  fits : AllByRecursion FitsHub (map as_stored cs)

are_stored : (place : ℕ) (cs : List Contents) → are_records_from place cs ≡ true → AreStored place cs
are_stored place [] is = record { are = refl; fits = tt }
are_stored place (c ∷ cs) is =
    let each = and_parts (is_record_at place c) (are_records_from (place + 1) cs) is in
    let here = and_parts (c.0 == place) (nat_lt c.1 256 && nat_le (length c.2) 256) each.0 in
    let low = and_parts (nat_lt c.1 256) (nat_le (length c.2) 256) here.1 in
    let at : c.0 ≡ place = equal_to c.0 place here.0 in
    let rest = are_stored (place + 1) cs each.1 in
    record {
      are = λ i. (at i, c.1, c.2) ∷ rest.are i;
      fits = ((grind (arith, nat_tests, low.0), grind (arith, nat_tests, low.1)), rest.fits);
    }

-- ---- its kind

by_word : (word : List ℕ) (kind : Kind) (a b : Bool) → (a ≡ true → word ≡ kind_word In)
    → (b ≡ true → word ≡ kind_word Out) → cond a (Some In) (cond b (Some Out) None) ≡ Some kind → word ≡ kind_word kind
by_word word kind true b first second is = first refl ∙ (let same : In ≡ kind = cc is in ap kind_word same)
by_word word kind false true first second is = second refl ∙ (let same : Out ≡ kind = cc is in ap kind_word same)
by_word word kind false false first second is = absurd (cc is)

word_of_kind : (word : List ℕ) (kind : Kind) → kind_of_word word ≡ Some kind → word ≡ kind_word kind
word_of_kind word kind is =
    by_word word kind (bytes_eq word (codes "SYSIN")) (bytes_eq word (codes "SYSOUT"))
    (bytes_decides word (codes "SYSIN")).0 (bytes_decides word (codes "SYSOUT")).0 is

-- ---- the file

module _ (spool : SpoolContents) (file : File) where
  abbrev cs : List Contents
  cs = contents_in (records_of file.key spool)

  abbrev as_file : Kind → List Stored → KeptFile
  as_file kind now = record { kind = kind; held = file.held; records = now }

  read_so : (kind : Kind) (now : List Stored) → kind_of_word file.kind ≡ Some kind → are_records_of file cs ≡ true
      → records_now kind file.to_node (map as_stored cs) ≡ Some now → IsReadAs spool file (as_file kind now)
  read_so kind now word all are =
      let each = and_parts (length cs == file.records) (are_records_from 0 cs) all in
      let stored = are_stored 0 cs each.1 in
      record {
        kind = word_of_kind file.kind kind word;
        held = refl;
        count = sym (equal_to (length cs) file.records each.0) ∙ sym (length-map cs as_stored)
            ∙ sym (rerouted_long kind (map as_stored cs) now
            (are_rerouted kind file.to_node (map as_stored cs) now are));
        stored = record { before = map as_stored cs; stored = stored.are; fits = stored.fits; are = are };
      }

  at_now : (kind : Kind) (o : Option (List Stored)) (f : KeptFile) → kind_of_word file.kind ≡ Some kind
      → are_records_of file cs ≡ true → records_now kind file.to_node (map as_stored cs) ≡ o
      → option_map (as_file kind) o ≡ Some f → IsReadAs spool file f
  at_now kind None f word all are is = absurd (cc is)
  at_now kind (Some now) f word all are is =
      let same : as_file kind now ≡ f = cc is in subst (IsReadAs spool file) same (read_so kind now word all are)

  at_records : (kind : Kind) (b : Bool) (f : KeptFile) → kind_of_word file.kind ≡ Some kind
      → are_records_of file cs ≡ b
      → option_map (as_file kind) (cond b (records_now kind file.to_node (map as_stored cs)) None) ≡ Some f
      → IsReadAs spool file f
  at_records kind true f word all is = at_now kind (records_now kind file.to_node (map as_stored cs)) f word all refl is
  at_records kind false f word all is = absurd (cc is)

  at_kind : (o : Option Kind) (f : KeptFile) → kind_of_word file.kind ≡ o → by_kind file cs o ≡ Some f
      → IsReadAs spool file f
  at_kind None f word is = absurd (cc is)
  at_kind (Some kind) f word is = at_records kind (are_records_of file cs) f word refl is

  pub is_read_as : (f : KeptFile) → file_in file (contents_in (records_of file.key spool)) ≡ Some f
      → IsReadAs spool file f
  is_read_as f is = at_kind (kind_of_word file.kind) f refl is

-- where the hub has it so, and it is remembered so, it is kept
pub is_kept_as_read : (spool : SpoolContents) (k : KeptWhole) (e : ℕ × File) (f : KeptFile) (g : WholeFile)
    → IsReadAs spool e.1 f → g.kind ≡ f.kind → g.records ≡ f.records → is_held g.state ≡ f.held
    → k.id ≡ e.0 → k.key ≡ e.1.key → is_sent e.1.to_node ≡ k.is_sent → Remembers k g → IsKept spool k e g
is_kept_as_read spool k e f g read kind records held id key sent remembers = record {
  id = sym id;
  row = record {
    key = sym key;
    kind = read.kind ∙ ap kind_word (sym kind);
    held = read.held ∙ sym held;
    count = read.count ∙ ap length (sym records);
  };
  sent = sent;
  remembers = remembers;
  stored = subst (λ n. IsStored spool n g.kind e.1.to_node g.records) (sym key)
      (subst (λ x. IsStored spool e.1.key x e.1.to_node g.records) (sym kind)
      (subst (λ rs. IsStored spool e.1.key f.kind e.1.to_node rs) (sym records) read.stored));
}
