-- A record that names its file's destination, and what it is when that is another.
use Rattle.std.proofs.Common.{◌≡◌, ℕ, ◌+◌, ◌≤◌, ◌&&◌, Bool, true, false, cond, not, List}
use Rattle.std.proofs.Common.{length, Option, Some, None, Result, Ok, Err, refl, sym, ap, subst, ◌∙◌, arith}
use Rattle.std.specs.Option.{option_map}
use Rattle.std.specs.Result.{result_ok}
use Rattle.njh_ebcdic.specs.Names.{is_name}
use Rattle.njh_record.specs.Bytes.{field, with_field}
use Rattle.njh_record.specs.Stored.{Stored, has_srcb}
use Rattle.njh_record.specs.declared.Kind.{Kind}
use Rattle.njh_record.specs.declared.Kind.TheVariants.{In, Out}
use Rattle.njh_header.specs.declared.fault.HeaderFault.{HeaderFault}
use Rattle.njh_header.specs.FileHeaders.{with_node_at}
use Rattle.njh_header.specs.Headers.{header_of, JobHeader, job_header, job_fields, DataSetHeader}
use Rattle.njh_header.specs.Headers.{data_set_header, data_set_fields}
use Rattle.njh_header.specs.Redirecting.{destination_node, destination_place, is_after_header}
use Rattle.njh_header.specs.Redirecting.{redirected_record}
use Rattle.njh_header.proofs.ChangedFields.{field_before, field_eight, field_itself, field_stays, field_twice}
use Rattle.njh_header.proofs.ChangedFields.{general_still, length_still, name_eight, within_general}
use Rattle.njh_header.proofs.HeadersLaw.{header_law}

-- ---- a header of which the node at a place is another

-- a header has another name at the place, it reads, and its node is that name
abbrev pub ReadsWith : {H : Type 0} (read : List ℕ → Result H HeaderFault) (place : H → ℕ) (node : H → List ℕ)
    (bytes : List ℕ) (p : ℕ) (name : List ℕ) → Type 0
ReadsWith {H = H} read place node bytes p name =
    (h : H) × (read (with_field p name bytes) ≡ Ok h) × (place h ≡ p) × (node h ≡ name)

-- the node that a header names is at the place, and may be another name there
pub record NamesNode {H : Type 0} (read : List ℕ → Result H HeaderFault) (place : H → ℕ) (node : H → List ℕ)
    (bytes : List ℕ) (p : ℕ)
    : Type 0 where
  pub within : p + 8 ≤ length bytes
  pub says : option_map node (result_ok (read bytes)) ≡ Some (field p 8 bytes)
  pub goes : (name : List ℕ) → is_name name ≡ true → ReadsWith read place node bytes p name

read_so : {H X : Type 0} (f : H → X) (x : Result H HeaderFault) (y : X) → option_map f (result_ok x) ≡ Some y
    → (h : H) × (x ≡ Ok h) × (f h ≡ y)
read_so f (Ok h) y is = (h, refl, cc is)
read_so f (Err e) y is = absurd (cc is)

module _ {H : Type 0} (size name at : ℕ) (fields : List ℕ → ℕ → H) (place : H → ℕ) (node : H → List ℕ)
    (placed : (bytes : List ℕ) (p : ℕ) → place (fields bytes p) ≡ p + at)
    (noded : (bytes : List ℕ) (p : ℕ) → node (fields bytes p) ≡ field (p + at) 8 bytes)
    (low : 4 ≤ at) (high : at + 8 ≤ size)
    (named : (p : ℕ) (new bytes : List ℕ) → is_name new ≡ true → p + at ≤ length bytes
    → is_name (field (p + name) 8 bytes) ≡ true → is_name (field (p + name) 8 (with_field (p + at) new bytes)) ≡ true)
  where
    names_node : (bytes : List ℕ) (p : ℕ)
        → option_map place (result_ok (header_of size name fields bytes)) ≡ Some p
        → NamesNode (header_of size name fields) place node bytes p
    names_node bytes p is =
        let found = read_so place (header_of size name fields bytes) p is in
        let header = (header_law size name fields bytes found.0).0 found.1 in
        let here : header.section + at ≡ p = sym (placed bytes header.section) ∙ sym (ap place header.says) ∙ found.2 in
        let inside : header.section + at + 8 ≤ length bytes =
        (let all = within_general size (at + 8) bytes header.section header.general high in omega arith) in
        subst (NamesNode (header_of size name fields) place node bytes) here
        (record {
          within = inside;
          says =
              ap (λ (x : Result H HeaderFault). option_map node (result_ok x)) found.1
              ∙ ap (λ h. Some (node h)) header.says ∙ ap (λ n. Some n) (noded bytes header.section);
          goes = λ new is_name_too.
              let eight = name_eight new is_name_too in
              let changed : List ℕ = with_field (header.section + at) new bytes in (
                fields changed header.section,
                (header_law size name fields changed (fields changed header.section)).1
                    (record {
                      section = header.section;
                      general = general_still size at bytes header.section header.general new low (omega arith);
                      named = named header.section new bytes is_name_too (omega arith) header.named;
                      says = refl;
                    }),
                placed changed header.section,
                noded changed header.section ∙ field_itself (header.section + at) new bytes (omega arith) eight,
              );
        })

pub job_names : (bytes : List ℕ) (p : ℕ) → option_map (λ h. h.place) (result_ok (job_header bytes)) ≡ Some p
    → NamesNode job_header (λ h. h.place) (λ h. h.execution.node) bytes p
job_names =
    names_node 96 64 80 job_fields (λ h. h.place) (λ h. h.execution.node) (λ bytes p. refl) (λ bytes p. refl)
    (omega arith) (omega arith)
    (λ p new bytes is within named. ap is_name (field_before (p + 80) new bytes (p + 64) 8 (omega arith) within)
    ∙ named)

pub data_set_names : (bytes : List ℕ) (p : ℕ)
    → option_map (λ h. h.place) (result_ok (data_set_header bytes)) ≡ Some p
    → NamesNode data_set_header (λ h. h.place) (λ h. h.destination.node) bytes p
data_set_names =
    names_node 20 4 4 data_set_fields (λ h. h.place) (λ h. h.destination.node) (λ bytes p. refl) (λ bytes p. refl)
    (omega arith) (omega arith)
    (λ p new bytes is within named. ap is_name (field_itself (p + 4) new bytes within (name_eight new is)) ∙ is)

-- ---- a record

-- a record that names its file's destination says what it has at the place, and may have another name there
pub record NamesAt (kind : Kind) (before : Option ℕ) (r : Stored) (p : ℕ) : Type 0 where
  pub within : p + 8 ≤ length r.bytes
  pub says : destination_node kind before r ≡ Some (field p 8 r.bytes)
  pub goes : (node : List ℕ) → is_name node ≡ true → destination_place kind before (with_node_at p node r) ≡ Some p

abbrev pub places_of : {H : Type 0} → (H → ℕ) → Result H HeaderFault → Option ℕ
places_of place x = option_map place (result_ok x)

pub names_at : (kind : Kind) (before : Option ℕ) (r : Stored) (p : ℕ) → destination_place kind before r ≡ Some p
    → NamesAt kind before r p
names_at In None r p is =
    let names = job_names r.bytes p is in
    record {
      within = names.within;
      says = names.says;
      goes = λ node named.
          let goes = names.goes node named in
          ap (places_of (λ (h : JobHeader). h.place)) goes.1 ∙ ap (λ n. Some n) goes.2;
    }
names_at In (Some b) r p is = absurd (cc is)
names_at Out before r p is = at_test (has_srcb 0xe0 r && not (is_after_header before)) refl is
  where
    at_test : (b : Bool) → (has_srcb 0xe0 r && not (is_after_header before)) ≡ b
        → cond b (option_map (λ h. h.place) (result_ok (data_set_header r.bytes))) None ≡ Some p
        → NamesAt Out before r p
    at_test false test is = absurd (cc is)
    at_test true test is =
        let names = data_set_names r.bytes p is in
        record {
          within = names.within;
          says = ap (λ b. cond b (option_map (λ h. h.destination.node) (result_ok (data_set_header r.bytes))) None) test
              ∙ names.says;
          goes = λ node named.
              let goes = names.goes node named in
              ap (λ b. cond b (places_of (λ h. h.place) (data_set_header (with_field p node r.bytes))) None) test
              ∙ ap (places_of (λ (h : DataSetHeader). h.place)) goes.1 ∙ ap (λ n. Some n) goes.2;
        }

no_node : {H : Type 0} (b : Bool) (x : Result H HeaderFault) (place : H → ℕ) (node : H → List ℕ)
    → cond b (option_map place (result_ok x)) None ≡ None → cond b (option_map node (result_ok x)) None ≡ None
no_node false x place node is = refl
no_node true (Err e) place node is = refl
no_node true (Ok h) place node is = absurd (cc is)

nowhere_none : (kind : Kind) (before : Option ℕ) (r : Stored) → destination_place kind before r ≡ None
    → destination_node kind before r ≡ None
nowhere_none In None r is = no_node true (job_header r.bytes) (λ h. h.place) (λ h. h.execution.node) is
nowhere_none In (Some b) r is = refl
nowhere_none Out before r is =
    no_node (has_srcb 0xe0 r && not (is_after_header before)) (data_set_header r.bytes) (λ h. h.place)
    (λ h. h.destination.node) is

-- It names no node, or one at a place.
pub data Naming (kind : Kind) (before : Option ℕ) (r : Stored) : Type 0 where
  nowhere : destination_place kind before r ≡ None → destination_node kind before r ≡ None → Naming kind before r
  somewhere : (p : ℕ) → destination_place kind before r ≡ Some p → NamesAt kind before r p → Naming kind before r

pub naming : (kind : Kind) (before : Option ℕ) (r : Stored) → Naming kind before r
naming kind before r = at_place (destination_place kind before r) refl
  where
    at_place : (o : Option ℕ) → destination_place kind before r ≡ o → Naming kind before r
    at_place None is = nowhere is (nowhere_none kind before r is)
    at_place (Some p) is = somewhere p is (names_at kind before r p is)

module _ (kind : Kind) (before : Option ℕ) (r : Stored) where
  abbrev pub sent : List ℕ → Stored
  sent node = redirected_record node (destination_place kind before r) r

  sent_as : (node : List ℕ) (o : Option ℕ) → destination_place kind before r ≡ o
      → sent node ≡ redirected_record node o r
  sent_as node o is = ap (λ o. redirected_record node o r) is

  -- to another node it is as long, and under the same SRCB
  pub sent_srcb : (node : List ℕ) → (sent node).srcb ≡ r.srcb
  sent_srcb node = at_place (destination_place kind before r)
    where
      at_place : (o : Option ℕ) → (redirected_record node o r).srcb ≡ r.srcb
      at_place None = refl
      at_place (Some p) = refl

  module _ (node : List ℕ) (named : is_name node ≡ true) where
    pub sent_long : length (sent node).bytes ≡ length r.bytes
    sent_long = by (naming kind before r)
      where
        by : Naming kind before r → length (sent node).bytes ≡ length r.bytes
        by (nowhere is none) = ap (λ (x : Stored). length x.bytes) (sent_as node None is)
        by (somewhere p is names) =
            ap (λ (x : Stored). length x.bytes) (sent_as node (Some p) is)
            ∙ length_still p node r.bytes (omega (arith, names.within, name_eight node named))

    -- the last node decides
    pub sent_again : (other : List ℕ) → is_name other ≡ true
        → redirected_record other (destination_place kind before (sent node)) (sent node) ≡ sent other
    sent_again other also = by (naming kind before r)
      where
        by : Naming kind before r
            → redirected_record other (destination_place kind before (sent node)) (sent node) ≡ sent other
        by (nowhere is none) =
            ap (λ (x : Stored). redirected_record other (destination_place kind before x) x) (sent_as node None is)
        by (somewhere p is names) =
            ap (λ (x : Stored). redirected_record other (destination_place kind before x) x) (sent_as node (Some p) is)
            ∙ ap (λ o. redirected_record other o (with_node_at p node r)) (names.goes node named)
            ∙ ap (λ bytes. record r { bytes = bytes })
            (field_twice p other r.bytes node (name_eight other also) (name_eight node named) names.within)
            ∙ sym (sent_as other (Some p) is)

  -- the node that it names is eight bytes
  pub named_eight : (m : List ℕ) → destination_node kind before r ≡ Some m → length m ≡ 8
  named_eight m says = by (naming kind before r)
    where
      by : Naming kind before r → length m ≡ 8
      by (nowhere is none) = absurd (let never = sym none ∙ says in cc never)
      by (somewhere p is names) =
          let here : m ≡ field p 8 r.bytes = (let both = sym says ∙ names.says in cc both) in
          ap length here ∙ field_eight p r.bytes names.within

  -- where it stays, it names this node if any
  pub stays_so : (node : List ℕ) → length node ≡ 8 → sent node ≡ r → (m : List ℕ)
      → destination_node kind before r ≡ Some m → m ≡ node
  stays_so node eight same m says = by (naming kind before r)
    where
      by : Naming kind before r → m ≡ node
      by (nowhere is none) = absurd (let never = sym none ∙ says in cc never)
      by (somewhere p is names) =
          let bytes : with_field p node r.bytes ≡ r.bytes =
          ap (λ (x : Stored). x.bytes) (sym (sent_as node (Some p) is) ∙ same) in
          let here : m ≡ field p 8 r.bytes = (let both = sym says ∙ names.says in cc both) in
          here ∙ ap (field p 8) (sym bytes) ∙ field_itself p node r.bytes (omega (arith, names.within)) eight

  -- where it names none, or this one, it stays
  pub stays : (node : List ℕ) → ((m : List ℕ) → destination_node kind before r ≡ Some m → m ≡ node) → sent node ≡ r
  stays node only = by (naming kind before r)
    where
      by : Naming kind before r → sent node ≡ r
      by (nowhere is none) = sent_as node None is
      by (somewhere p is names) =
          sent_as node (Some p) is
          ∙ ap (λ n. with_node_at p n r) (sym (only (field p 8 r.bytes) names.says))
          ∙ ap (λ bytes. record r { bytes = bytes }) (field_stays p r.bytes names.within)
