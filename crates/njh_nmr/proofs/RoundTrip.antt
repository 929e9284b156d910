-- What is written reads back, and what was read is written as it came.
use Rattle.std.proofs.Common.{◌≡◌, ℕ, ◌+◌, ◌-◌, ◌≤◌, Bool, true, false, cond, ◌&&◌, ◌||◌, ltb, Result, Ok, Err, List}
use Rattle.std.proofs.Common.{[], ◌∷◌, ◌++◌, length, take, drop, slice_index, refl, sym, ap, subst, ◌∙◌, arith}
use Rattle.std.proofs.lemmas.List.{length-append, length-take-le, length-drop, take_at}
use Rattle.std.proofs.lemmas.Bool.{cond-true, cond-false, le-ltb, ltb-false, or_from, or_parts, and_from, and_parts}
use Rattle.std.proofs.lemmas.Bool.{eqb-true}
use Rattle.njh_record.specs.Bytes.{field}
use Rattle.njh_ebcdic.specs.Names.{is_name}
use Rattle.njh_nmr.specs.declared.fault.NmrFault.{NmrFault}
use Rattle.njh_nmr.specs.declared.fault.NmrFault.TheVariants.{TooShort, BadLength, BadName}
use Rattle.njh_nmr.specs.Nodal.{Nodal, IsMessage, record_of, fields_of, cut_after_message, nodal_of, longest_message}
use Rattle.njh_nmr.proofs.Places.{record_of-nested, cut-nested}

-- what makes bytes read as this message
pub record IsRead (bytes : List ℕ) (n : Nodal) : Type 0 where
  pub long : 30 ≤ length bytes
  pub few : slice_index bytes 3 ≤ longest_message
  pub within : slice_index bytes 3 ≤ length bytes - 30
  pub to_named : is_name (field 4 8 bytes) ≡ true
  pub origin_named : is_name (field 21 8 bytes) ≡ true
  pub same : fields_of (slice_index bytes 3) bytes ≡ n

read_parts : (p q r s : Bool) (m n : Nodal)
    → ◌≡◌ {A = Result Nodal NmrFault} (cond p (Err TooShort)
    (cond q (Err BadLength) (cond (r && s) (Ok m) (Err BadName))))
    (Ok n) → (p ≡ false) × (q ≡ false) × (r ≡ true) × (s ≡ true) × (m ≡ n)
read_parts true q r s m n is = cc
read_parts false true r s m n is = cc
read_parts false false false s m n is = cc
read_parts false false true false m n is = cc
read_parts false false true true m n is = (refl, refl, refl, refl, cc)

IsRead-nodal_of : (bytes : List ℕ) (n : Nodal) → nodal_of bytes ≡ Ok n → IsRead bytes n
IsRead-nodal_of bytes n is =
    let len = slice_index bytes 3 in
    let parts = read_parts (ltb (length bytes) 30) (ltb longest_message len || ltb (length bytes - 30) len)
    (is_name (field 4 8 bytes))
    (is_name (field 21 8 bytes)) (fields_of len bytes) n is in
    let bounds = or_parts (ltb longest_message len) (ltb (length bytes - 30) len) parts.1 in
    record {
      long = ltb-false (length bytes) 30 parts.0;
      few = ltb-false longest_message len bounds.0;
      within = ltb-false (length bytes - 30) len bounds.1;
      to_named = parts.2;
      origin_named = parts.3;
      same = parts.4;
    }

nodal_of-IsRead : (bytes : List ℕ) (n : Nodal) → IsRead bytes n → nodal_of bytes ≡ Ok n
nodal_of-IsRead bytes n read =
    let len = slice_index bytes 3 in
    cond-false (ltb (length bytes) 30) _ _ (le-ltb (length bytes) 30 read.long)
    ∙ (cond-false (ltb longest_message len || ltb (length bytes - 30) len) _ _
    (or_from _ _ (le-ltb longest_message len read.few) (le-ltb (length bytes - 30) len read.within))
    ∙ (cond-true (is_name (field 4 8 bytes) && is_name (field 21 8 bytes)) _ _
    (and_from _ _ read.to_named read.origin_named)
    ∙ ap Ok read.same))

pub record_of-read : (bytes : List ℕ) (n : Nodal) → nodal_of bytes ≡ Ok n → record_of n ≡ cut_after_message bytes
record_of-read bytes n is =
    let read = IsRead-nodal_of bytes n is in
    let len = slice_index bytes 3 in
    let enough : 30 + len ≤ length bytes = omega (arith, read.long, read.within) in
    ap record_of (sym read.same) ∙ (record_of-nested (fields_of len bytes) ∙ sym (cut-nested bytes len enough refl))

pub IsMessage-read : (bytes : List ℕ) (n : Nodal) → nodal_of bytes ≡ Ok n → IsMessage n
IsMessage-read bytes n is =
    let read = IsRead-nodal_of bytes n is in
    let len = slice_index bytes 3 in
    let user : length (field 13 8 bytes) ≡ 8 =
    length-take-le 8 (drop 13 bytes) (omega (arith, length-drop 13 bytes, read.long)) in
    let message : length (field 30 len bytes) ≡ len =
    length-take-le len (drop 30 bytes) (omega (arith, length-drop 30 bytes, read.long, read.within)) in
    subst IsMessage read.same (record {
      to_named = read.to_named;
      origin_named = read.origin_named;
      user_size = user;
      fits = omega (arith, message, read.few);
    })

-- eight bytes
data IsEight : List ℕ → Type 0 where
  eight : (a b c d e f g h : ℕ) → IsEight (a ∷ b ∷ c ∷ d ∷ e ∷ f ∷ g ∷ h ∷ [])

IsEight-length : (xs : List ℕ) → length xs ≡ 8 → IsEight xs
IsEight-length [] is = absurd (omega arith)
IsEight-length (a ∷ []) is = absurd (omega arith)
IsEight-length (a ∷ b ∷ []) is = absurd (omega arith)
IsEight-length (a ∷ b ∷ c ∷ []) is = absurd (omega arith)
IsEight-length (a ∷ b ∷ c ∷ d ∷ []) is = absurd (omega arith)
IsEight-length (a ∷ b ∷ c ∷ d ∷ e ∷ []) is = absurd (omega arith)
IsEight-length (a ∷ b ∷ c ∷ d ∷ e ∷ f ∷ []) is = absurd (omega arith)
IsEight-length (a ∷ b ∷ c ∷ d ∷ e ∷ f ∷ g ∷ []) is = absurd (omega arith)
IsEight-length (a ∷ b ∷ c ∷ d ∷ e ∷ f ∷ g ∷ h ∷ []) is = eight a b c d e f g h
IsEight-length (a ∷ b ∷ c ∷ d ∷ e ∷ f ∷ g ∷ h ∷ i ∷ xs) is = absurd (omega arith)

IsEight-is_name : (name : List ℕ) → is_name name ≡ true → IsEight name
IsEight-is_name name is = IsEight-length name (eqb-true (length name) 8 (and_parts _ _ is).0)

with_message : (n : Nodal) (message : List ℕ) → message ≡ n.message → record n { message = message } ≡ n
with_message n message is = ap (λ bytes. record n { message = bytes }) is

-- with eight bytes in each field the places compute
abbrev message_with : ℕ × ℕ × ℕ × ℕ × ℕ → List ℕ → List ℕ → List ℕ → List ℕ → Nodal
message_with bytes to user origin message =
    record {
      flag = bytes.0;
      level = bytes.1;
      kind = bytes.2;
      to = to;
      to_qualifier = bytes.3;
      user = user;
      origin = origin;
      origin_qualifier = bytes.4;
      message = message;
    }

written : (bytes : ℕ × ℕ × ℕ × ℕ × ℕ) {to user origin : List ℕ} (message behind : List ℕ) → IsEight to → IsEight user
    → IsEight origin → is_name to ≡ true → is_name origin ≡ true → length message ≤ longest_message → IsRead
    (record_of (message_with bytes to user origin message) ++ behind) (message_with bytes to user origin message)
written bytes message behind (eight a b c d e f g h) (eight i j k l m n o p) (eight q r s t u v w x) to origin few =
    record {
      long = omega (arith, length-append message behind);
      few = few;
      within = omega (arith, length-append message behind);
      to_named = to;
      origin_named = origin;
      same = with_message (message_with bytes (a ∷ b ∷ c ∷ d ∷ e ∷ f ∷ g ∷ h ∷ []) (i ∷ j ∷ k ∷ l ∷ m ∷ n ∷ o ∷ p ∷ [])
          (q ∷ r ∷ s ∷ t ∷ u ∷ v ∷ w ∷ x ∷ []) message) (take (length message) (message ++ behind))
          (take_at message behind (length message) refl);
    }

pub nodal_of-record_of : (n : Nodal) (behind : List ℕ) → IsMessage n → nodal_of (record_of n ++ behind) ≡ Ok n
nodal_of-record_of n behind is =
    nodal_of-IsRead (record_of n ++ behind) n
    (written (n.flag, n.level, n.kind, n.to_qualifier, n.origin_qualifier) n.message behind
    (IsEight-is_name n.to is.to_named)
    (IsEight-length n.user is.user_size) (IsEight-is_name n.origin is.origin_named) is.to_named is.origin_named is.fits)
