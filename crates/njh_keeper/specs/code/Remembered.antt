-- What the keeper of a spool file remembers of a customer's files, and what its calls make of a spool file.
use Rattle.std.specs.Prelude.{◌≡◌, ◌≢◌, ℕ, ◌+◌, ◌<◌, ◌≤◌, ◌==◌, ◌-◌, ◌^◌, ◌&&◌, nat_le, nat_lt}
use Rattle.std.specs.Prelude.{Bool, false, cond, Some, None}
use Rattle.std.specs.Prelude.{List, [], ◌∷◌, length, take}
use Rattle.std.specs.List.{AllByRecursion}
use Rattle.njh_ebcdic.specs.Users.{User}
use Rattle.njh_header.specs.Redirecting.{records_to_node}
use Rattle.njh_record.specs.Stored.{Stored}
use Rattle.njh_record.specs.declared.Kind.{Kind}
use Rattle.njh_spool.specs.CustomerSpool.{WholeFile}
use Rattle.njh_spool.specs.declared.State.{State}
use Rattle.njh_spoolfile.specs.Kept.{File, SpoolContents, records_of}
use Rattle.njh_spoolfile.specs.Sent.{is_sent, kind_word, records_now}
use Rattle.njh_hub.specs.Files.{said_destination}
use Rattle.njh_turns.specs.Keeping.{is_held}
use Rattle.njh_keeper.specs.code.Mirrored.{FitsHub, HasRecords, IsOrdered, own_rows}

-- ---- what is remembered

-- a whole file that is kept: the numbers of its row and of its records, and how the hub had it
pub record KeptWhole : Type 0 where
  pub id : ℕ
  pub key : ℕ
  pub number : ℕ
  pub records : ℕ
  pub state : State
  pub destination : User
  pub is_mixed : Bool
  pub is_sent : Bool

-- a file that isn't whole, some of whose records are kept
pub record KeptPartial : Type 0 where
  pub number : ℕ
  pub key : ℕ
  pub seen : ℕ
  pub written : ℕ
  pub is_open : Bool

-- records of a file that has left, from a place on
pub record Sweep : Type 0 where
  pub key : ℕ
  pub next : ℕ
  pub end : ℕ

-- a customer's files, and what is still to be dropped of those that have left
pub record OwnFiles : Type 0 where
  pub name : List ℕ
  pub arrived : ℕ
  pub whole : List KeptWhole
  pub partial : List KeptPartial
  pub sweeps : List Sweep

-- a customer's files, and its name as each row has it
pub record OwnMemory : Type 0 where
  pub own : OwnFiles
  pub text : List ℕ

-- the numbers that the writer may give out
pub record Numbers : Type 0 where
  pub next_id : ℕ
  pub next_key : ℕ
  pub free_keys : List ℕ

-- three lists of one length side by side
pub data AllBeside {X Y Z : Type 0} (R : X → Y → Z → Type 0) : List X → List Y → List Z → Type 0 where
  none_beside : AllBeside R [] [] []
  one_beside : (x : X) (y : Y) (z : Z) (xs : List X) (ys : List Y) (zs : List Z) → R x y z → AllBeside R xs ys zs
      → AllBeside R (x ∷ xs) (y ∷ ys) (z ∷ zs)

-- ---- a hub's whole file on a spool file

-- a row under whose key this file's records stand
pub record IsRowOf (under : ℕ) (f : WholeFile) (row : File) : Type 0 where
  pub key : row.key ≡ under
  pub kind : row.kind ≡ kind_word f.kind
  pub held : row.held ≡ is_held f.state
  pub count : row.records ≡ length f.records

-- the headers among the records of a file of this kind name no other node than its destination's
abbrev pub NameOneNode : Kind → List Stored → Type 0
NameOneNode kind records = records_to_node kind (said_destination kind records).node None records ≡ records

-- what is remembered of the file
pub record Remembers (k : KeptWhole) (f : WholeFile) : Type 0 where
  pub number : k.number ≡ f.number
  pub records : k.records ≡ length f.records
  pub state : k.state ≡ f.state
  pub destination : k.destination ≡ said_destination f.kind f.records
  pub mixed : k.is_mixed ≡ false → NameOneNode f.kind f.records

-- Under a key stand records that a hub can get back, and by a row's text for the node they are these now.
pub record IsStored (spool : SpoolContents) (key : ℕ) (kind : Kind) (text : List ℕ) (now : List Stored) : Type 0 where
  pub before : List Stored
  pub stored : HasRecords key before spool
  pub fits : AllByRecursion FitsHub before
  pub are : records_now kind text before ≡ Some now

-- it is remembered, and its row and its records are there
pub record IsKept (spool : SpoolContents) (k : KeptWhole) (e : ℕ × File) (f : WholeFile) : Type 0 where
  pub id : e.0 ≡ k.id
  pub row : IsRowOf k.key f e.1
  pub sent : is_sent e.1.to_node ≡ k.is_sent
  pub remembers : Remembers k f
  pub stored : IsStored spool k.key f.kind e.1.to_node f.records

-- the rows of the customer are these files' and no others'
abbrev pub Mirrored : SpoolContents → OwnFiles → List WholeFile → Type 0
Mirrored spool own files = AllBeside (IsKept spool) own.whole (own_rows own.name spool) files

-- of a file that isn't whole so many records are there
pub record IsPartlyKept (spool : SpoolContents) (p : KeptPartial) (records : List Stored) : Type 0 where
  pub written : p.written ≤ length records
  pub stored : HasRecords p.key (take p.written records) spool

-- ---- under which number records stand

abbrev pub one_if : Bool → ℕ
one_if b = cond b 1 0

-- how many of these have the number
abbrev pub keyed : {X : Type 0} → (X → ℕ) → ℕ → List X → ℕ
keyed key n [] = 0
keyed key n (x ∷ xs) = one_if (key x == n) + keyed key n xs

-- how often it is the number of a customer's files, of those too that have left,
abbrev pub uses_of_files : ℕ → OwnFiles → ℕ
uses_of_files n own =
    keyed (λ k. k.key) n own.whole + keyed (λ p. p.key) n own.partial + keyed (λ s. s.key) n own.sweeps

-- whether the writer may still give it out for the first time
abbrev pub may_be_given : ℕ → ℕ → Bool
may_be_given next n = nat_le next n && nat_lt n (2 ^ 32 - 1)

-- how often it is one of the writer's: free, or not given out yet,
abbrev pub uses_of_numbers : ℕ → Numbers → ℕ
uses_of_numbers n w = keyed (λ k. k) n w.free_keys + one_if (may_be_given w.next_key n)

-- and both
abbrev pub uses : ℕ → Numbers → OwnFiles → ℕ
uses n w own = uses_of_files n own + uses_of_numbers n w

-- how often it is one of all customers' files
abbrev pub uses_of_all : ℕ → List OwnFiles → ℕ
uses_of_all n [] = 0
uses_of_all n (own ∷ owns) = uses_of_files n own + uses_of_all n owns

-- no number is used twice, by the files of all customers and by the writer
abbrev pub AllAreApart : Numbers → List OwnFiles → Type 0
AllAreApart w owns = (n : ℕ) → uses_of_all n owns + uses_of_numbers n w ≤ 1

-- ---- what a call makes of a spool file

-- the rows of one customer, and the numbers that may be given to rows and records
pub record Claim : Type 0 where
  pub name : List ℕ
  pub next_id : ℕ
  pub uses : ℕ → ℕ

abbrev pub claim : Numbers → OwnFiles → Claim
claim w own = record { name = own.name; next_id = w.next_id; uses = λ n. uses n w own }

-- one number more is in hand
abbrev pub with_key : ℕ → Claim → Claim
with_key key a = record { name = a.name; next_id = a.next_id; uses = λ n. one_if (key == n) + a.uses n }

-- the numbers of the rows are below the next one
abbrev pub AreBelow : ℕ → SpoolContents → Type 0
AreBelow end spool = AllByRecursion (λ e. e.0 < end) spool.files

-- no number is used twice
abbrev pub AreApart : Claim → Type 0
AreApart a = (n : ℕ) → a.uses n ≤ 1

-- Rows of other customers stay, and so do the records under numbers that none of these is. No number is used more
-- often.
pub record Moves (a b : Claim) (s t : SpoolContents) : Type 0 where
  pub name : b.name ≡ a.name
  pub uses : (n : ℕ) → b.uses n ≤ a.uses n
  pub ordered : IsOrdered t
  pub next : a.next_id ≤ b.next_id
  pub below : AreBelow a.next_id s → AreBelow b.next_id t
  pub records : (key : ℕ) → a.uses key ≡ 0 → records_of key t ≡ records_of key s
  pub rows : (other : List ℕ) → other ≢ a.name → own_rows other t ≡ own_rows other s
