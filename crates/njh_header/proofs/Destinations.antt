-- The records of a file when its destination is another.
use Rattle.std.proofs.Common.{◌≡◌, ℕ, ◌==◌, ◌&&◌, Bool, true, false, cond, not, List, [], ◌∷◌}
use Rattle.std.proofs.Common.{Option, Some, None, Result, Ok, Err, refl, sym, ap, subst, ◌∙◌, eqb-true}
use Rattle.std.specs.Option.{option_map}
use Rattle.std.specs.Result.{result_ok}
use Rattle.njh_ebcdic.specs.Names.{is_name}
use Rattle.njh_ebcdic.specs.Users.{User}
use Rattle.njh_record.specs.Bytes.{with_field}
use Rattle.njh_record.specs.Stored.{Stored, has_srcb}
use Rattle.njh_record.specs.declared.Kind.{Kind}
use Rattle.njh_record.specs.declared.Kind.TheVariants.{In, Out}
use Rattle.njh_header.specs.declared.fault.HeaderFault.{HeaderFault}
use Rattle.njh_header.specs.FileHeaders.{job_header_of, data_set_header_of, destination_of, with_destination}
use Rattle.njh_header.specs.Headers.{JobHeader, job_header, job_name, DataSetHeader}
use Rattle.njh_header.specs.Headers.{data_set_header}
use Rattle.njh_header.specs.Redirecting.{destination_node, destination_place, is_after_header, records_to_node}
use Rattle.njh_header.specs.Redirecting.{redirected_record}
use Rattle.njh_header.specs.WholeFiles.{HasHeaders}
use Rattle.njh_header.proofs.Redirected.{redirected_is}
use Rattle.njh_header.proofs.DestinationRecords.{data_set_names, job_names, places_of, sent, sent_again, sent_srcb}

-- ---- a file's records, to one node and then to another

pub records_twice : (kind : Kind) (m n : List ℕ) → is_name m ≡ true → is_name n ≡ true
    → (before : Option ℕ) (rs : List Stored)
    → records_to_node kind n before (records_to_node kind m before rs) ≡ records_to_node kind n before rs
records_twice kind m n first second before [] = refl
records_twice kind m n first second before (r ∷ rs) =
    let after : List Stored = records_to_node kind m (Some r.srcb) rs in
    let rest : records_to_node kind n (Some (sent kind before r m).srcb) after
    ≡ records_to_node kind n (Some r.srcb) rs =
    ap (λ s. records_to_node kind n (Some s) after) (sent_srcb kind before r m)
    ∙ records_twice kind m n first second (Some r.srcb) rs in
    λ i. sent_again kind before r m first n second i ∷ rest i

-- ---- its destination is the node then

pub under : {A B : Type 0} (f : A → B) (o : Option A) (b : B) → option_map f o ≡ Some b
    → (a : A) × (o ≡ Some a) × (f a ≡ b)
under f None b e = absurd (cc e)
under f (Some a) b e = (a, refl, cc e)

pub read_where : {H : Type 0} (test : Bool) (header : Result H HeaderFault) (h : H)
    → cond test (result_ok header) None ≡ Some h → (test ≡ true) × (header ≡ Ok h)
read_where false header h e = absurd (cc e)
read_where true (Err fault) h e = absurd (cc e)
read_where true (Ok g) h e = (refl, cc e)

abbrev pub of_srcb : ℕ → List ℕ → Stored
of_srcb srcb bytes = record { srcb = srcb; bytes = bytes }

-- the first record that is no job header is this data set header
pub data FirstDataSet : List Stored → DataSetHeader → Type 0 where
  data_set_here : (bytes : List ℕ) (rs : List Stored) (h : DataSetHeader) → data_set_header bytes ≡ Ok h
      → FirstDataSet (of_srcb 0xe0 bytes ∷ rs) h
  job_before : (bytes : List ℕ) (rs : List Stored) (h : DataSetHeader) → FirstDataSet rs h
      → FirstDataSet (of_srcb 0xc0 bytes ∷ rs) h

pub first_data_set : (rs : List Stored) (h : DataSetHeader) → data_set_header_of rs ≡ Some h → FirstDataSet rs h
first_data_set [] h is = absurd (cc is)
first_data_set (r ∷ rs) h is = at_srcb (r.srcb == 0xc0) refl (first_data_set rs h) is
  where
    at_srcb : (b : Bool) → (r.srcb == 0xc0) ≡ b → (data_set_header_of rs ≡ Some h → FirstDataSet rs h)
        → elim b as (λ _. Option DataSetHeader)
        [ true ↦ data_set_header_of rs | false ↦ cond (r.srcb == 0xe0) (result_ok (data_set_header r.bytes)) None ]
        ≡ Some h
        → FirstDataSet (r ∷ rs) h
    at_srcb true job later_on is =
        subst (λ n. FirstDataSet (of_srcb n r.bytes ∷ rs) h) (sym (eqb-true r.srcb 0xc0 job))
        (job_before r.bytes rs h (later_on is))
    at_srcb false job later_on is =
        let read = read_where (r.srcb == 0xe0) (data_set_header r.bytes) h is in
        subst (λ n. FirstDataSet (of_srcb n r.bytes ∷ rs) h) (sym (eqb-true r.srcb 0xe0 read.0))
        (data_set_here r.bytes rs h read.1)

-- where the record before is no data set header
first_place : (before : Option ℕ) (bytes : List ℕ) (h : DataSetHeader) → is_after_header before ≡ false
    → data_set_header bytes ≡ Ok h → destination_place Out before (of_srcb 0xe0 bytes) ≡ Some h.place
first_place before bytes h begins reads =
    ap (λ b. cond (not b) (places_of (λ h. h.place) (data_set_header bytes)) None) begins
    ∙ ap (places_of (λ (h : DataSetHeader). h.place)) reads

-- the first of a file's records that names a destination names this node
pub data FirstNode (kind : Kind) (node : List ℕ) : Option ℕ → List Stored → Type 0 where
  first_names : (before : Option ℕ) (r : Stored) (rs : List Stored) → destination_node kind before r ≡ Some node
      → FirstNode kind node before (r ∷ rs)
  none_before : (before : Option ℕ) (r : Stored) (rs : List Stored) → destination_node kind before r ≡ None
      → FirstNode kind node (Some r.srcb) rs → FirstNode kind node before (r ∷ rs)

data_set_is_first : (before : Option ℕ) (rs : List Stored) (h : DataSetHeader) → is_after_header before ≡ false
    → FirstDataSet rs h → FirstNode Out h.destination.node before rs
data_set_is_first before _ h begins (job_before bytes rs _ more) =
    none_before before (of_srcb 0xc0 bytes) rs refl (data_set_is_first (Some 0xc0) rs h refl more)
data_set_is_first before _ h begins (data_set_here bytes rs _ reads) =
    first_names before (of_srcb 0xe0 bytes) rs
    (ap (λ b. cond (not b) (option_map (λ h. h.destination.node) (result_ok (data_set_header bytes))) None) begins
    ∙ ap (λ (x : Result DataSetHeader HeaderFault). option_map (λ h. h.destination.node) (result_ok x)) reads)

-- the file's destination is there
pub destination_is_first : (kind : Kind) (rs : List Stored) (d : User) → destination_of kind rs ≡ Some d
    → FirstNode kind d.node None rs
destination_is_first In [] d is = absurd (cc is)
destination_is_first In (r ∷ rs) d is =
    let job = under (λ (h : JobHeader). h.execution) (job_header_of (r ∷ rs)) d is in
    let read = read_where (r.srcb == 0xc0) (job_header r.bytes) job.0 job.1 in
    first_names None r rs
    (ap (λ (x : Result JobHeader HeaderFault). option_map (λ h. h.execution.node) (result_ok x)) read.1
    ∙ ap (λ (u : User). Some u.node) job.2)
destination_is_first Out rs d is =
    let data_set = under (λ (h : DataSetHeader). h.destination) (data_set_header_of rs) d is in
    subst (λ (u : User). FirstNode Out u.node None rs) data_set.2
    (data_set_is_first None rs data_set.0 refl (first_data_set rs data_set.0 data_set.1))

module _ (node : List ℕ) (named : is_name node ≡ true) where
  job_goes : (rs : List Stored) (h : JobHeader) → job_header_of rs ≡ Some h
      → (g : JobHeader) × (job_header_of (records_to_node In node None rs) ≡ Some g) × (g.execution.node ≡ node)
  job_goes [] h is = absurd (cc is)
  job_goes (r ∷ rs) h is =
      let read = read_where (r.srcb == 0xc0) (job_header r.bytes) h is in
      let place : destination_place In None r ≡ Some h.place = ap (places_of (λ (h : JobHeader). h.place)) read.1 in
      let goes = (job_names r.bytes h.place place).goes node named in
      let rest : List Stored = records_to_node In node (Some r.srcb) rs in (
        goes.0,
        ap (λ o. job_header_of (redirected_record node o r ∷ rest)) place
            ∙ ap (λ b. cond b (result_ok (job_header (with_field h.place node r.bytes))) None) read.0
            ∙ ap result_ok goes.1,
        goes.3,
      )

  job_stays : (before : Option ℕ) (rs : List Stored) (h : JobHeader) → job_header_of rs ≡ Some h
      → job_header_of (records_to_node Out node before rs) ≡ Some h
  job_stays before [] h is = absurd (cc is)
  job_stays before (r ∷ rs) h is =
      let read = read_where (r.srcb == 0xc0) (job_header r.bytes) h is in
      let other : has_srcb 0xe0 r ≡ false = ap (λ n. n == 0xe0) (eqb-true r.srcb 0xc0 read.0) in
      ap (λ b. job_header_of (redirected_record node
      (cond (b && not (is_after_header before)) (places_of (λ h. h.place) (data_set_header r.bytes)) None) r
      ∷ records_to_node Out node (Some r.srcb) rs)) other ∙ is

  data_set_goes : (before : Option ℕ) (rs : List Stored) (h : DataSetHeader) → is_after_header before ≡ false
      → FirstDataSet rs h
      → (g : DataSetHeader) × (data_set_header_of (records_to_node Out node before rs) ≡ Some g)
      × (g.destination.node ≡ node)
  data_set_goes before _ h begins (job_before bytes rs _ more) = data_set_goes (Some 0xc0) rs h refl more
  data_set_goes before _ h begins (data_set_here bytes rs _ reads) =
      let place = first_place before bytes h begins reads in
      let goes = (data_set_names bytes h.place (ap (places_of (λ (h : DataSetHeader). h.place)) reads)).goes node named
      in (
        goes.0,
        ap (λ o. data_set_header_of (redirected_record node o (of_srcb 0xe0 bytes)
            ∷ records_to_node Out node (Some 0xe0) rs)) place ∙ ap result_ok goes.1,
        goes.3,
      )

  pub goes_to_node : (kind : Kind) (rs : List Stored) (d : User) → destination_of kind rs ≡ Some d
      → (g : User) × (destination_of kind (records_to_node kind node None rs) ≡ Some g) × (g.node ≡ node)
  goes_to_node In rs d is =
      let job = under (λ (h : JobHeader). h.execution) (job_header_of rs) d is in
      let goes = job_goes rs job.0 job.1 in
      (goes.0.execution, ap (option_map (λ (h : JobHeader). h.execution)) goes.1, goes.2)
  goes_to_node Out rs d is =
      let data_set = under (λ (h : DataSetHeader). h.destination) (data_set_header_of rs) d is in
      let goes = data_set_goes None rs data_set.0 refl (first_data_set rs data_set.0 data_set.1) in
      (goes.0.destination, ap (option_map (λ (h : DataSetHeader). h.destination)) goes.1, goes.2)

  -- and it has headers still
  headers_go : (kind : Kind) (records : List Stored) → HasHeaders kind records
      → HasHeaders kind (records_to_node kind node None records)
  headers_go In records has =
      let job = under job_name (job_header_of records) has.name has.named in
      let goes = job_goes records job.0 job.1 in
      record {
        name = job_name goes.0;
        owner = goes.0.origin;
        destination = goes.0.execution;
        named = ap (option_map job_name) goes.1;
        owned = ap (option_map (λ (h : JobHeader). h.origin)) goes.1;
        goes = ap (option_map (λ (h : JobHeader). h.execution)) goes.1;
      }
  headers_go Out records has =
      let job = under job_name (job_header_of records) has.name has.named in
      let stays = job_stays None records job.0 job.1 in
      let goes = goes_to_node Out records has.destination has.goes in
      record {
        name = job_name job.0;
        owner = job.0.origin;
        destination = goes.0;
        named = ap (option_map job_name) stays;
        owned = ap (option_map (λ (h : JobHeader). h.origin)) stays;
        goes = goes.1;
      }

pub still_has_headers : (kind : Kind) (node : List ℕ) (records : List Stored) → is_name node ≡ true
    → HasHeaders kind records → HasHeaders kind (with_destination kind node records)
still_has_headers kind node records named has =
    subst (HasHeaders kind) (redirected_is kind node records) (headers_go node named kind records has)
