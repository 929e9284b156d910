-- A record whose nodes are not both names.
use Rattle.std.proofs.Common.{◌≡◌, ℕ, ◌-◌, ◌≤◌, Bool, true, false, cond, inl, inr, ◌&&◌, ◌||◌, ◌⊎◌, ltb, Ok, Err}
use Rattle.std.proofs.Common.{Result, List, length, slice_index, sym, ◌∙◌}
use Rattle.std.proofs.lemmas.Bool.{cond-false, le-ltb, or_from}
use Rattle.njh_record.specs.Bytes.{field}
use Rattle.njh_ebcdic.specs.Names.{is_name}
use Rattle.njh_nmr.specs.Nodal.{Nodal, nodal_of, node_of, fields_of, longest_message}
use Rattle.njh_nmr.specs.declared.fault.NmrFault.{NmrFault}
use Rattle.njh_nmr.specs.declared.fault.NmrFault.TheVariants.{BadName}

either_bad : (p q : Bool) (to origin : List ℕ) (n : Nodal) (e : NmrFault)
    → (Err e ≡ cond p (Ok to) (Err BadName)) ⊎ (Err e ≡ cond q (Ok origin) (Err BadName))
    → Err e ≡ cond (p && q) (Ok n) (Err BadName)
either_bad false q to origin n e (inl bad) = cc
either_bad false false to origin n e (inr bad) = cc
either_bad false true to origin n e (inr bad) = cc
either_bad true false to origin n e (inl bad) = cc
either_bad true false to origin n e (inr bad) = cc
either_bad true true to origin n e (inl bad) = cc
either_bad true true to origin n e (inr bad) = cc

-- if one of the nodes is no name, the record isn't one
pub nodal_of-bad_name : (bytes : List ℕ) (e : NmrFault) → 30 ≤ length bytes → slice_index bytes 3 ≤ longest_message
    → slice_index bytes 3 ≤ length bytes - 30 → (Err e ≡ node_of (field 4 8 bytes))
    ⊎ (Err e ≡ node_of (field 21 8 bytes))
    → Err e ≡ nodal_of bytes
nodal_of-bad_name bytes e long few within bad =
    let len = slice_index bytes 3 in
    either_bad (is_name (field 4 8 bytes)) (is_name (field 21 8 bytes)) (field 4 8 bytes) (field 21 8 bytes)
    (fields_of len bytes) e bad
    ∙ (sym (cond-false (ltb longest_message len || ltb (length bytes - 30) len) _ _
    (or_from _ _ (le-ltb longest_message len few) (le-ltb (length bytes - 30) len within)))
    ∙ sym (cond-false (ltb (length bytes) 30) _ _ (le-ltb (length bytes) 30 long)))

named : (p : Bool) (name found : List ℕ) → ◌≡◌ {A = Result (List ℕ) NmrFault} (Ok name)
    (cond p (Ok found) (Err BadName)) → name ≡ found
named true name found is = cc
named false name found is = cc

-- a node that a field names is the field
pub node_of-named : (name field : List ℕ) → ◌≡◌ {A = Result (List ℕ) NmrFault} (Ok name) (node_of field) → name ≡ field
node_of-named name field is = named (is_name field) name field is
