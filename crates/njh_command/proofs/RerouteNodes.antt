-- The node of REROUTE is a name.
use Rattle.std.proofs.Common.{◌≡◌, ℕ, ◌+◌, ◌-◌, ◌≤◌, Bool, true, false, cond, not, ◌&&◌, List, [], ◌∷◌, length}
use Rattle.std.proofs.Common.{replicate}
use Rattle.std.proofs.Common.{Option, Some, None, Result, Ok, Err, nat_lt, refl, ap, subst, ◌∙◌, arith, eq-eqb}
use Rattle.std.proofs.lemmas.Bool.{ltb-false}
use Rattle.std.proofs.lemmas.List.{length-append, length-replicate}
use Rattle.std.specs.List.{list_all}
use Rattle.std.specs.Option.{option_and_then}
use Rattle.std.specs.Prelude.{codes}
use Rattle.std.specs.Result.{result_ok}
use Rattle.njh_header.specs.FileNames.{FileName}
use Rattle.njh_ebcdic.specs.Names.{is_empty, is_name, is_name_byte, padded_field, without_end_blanks}
use Rattle.njh_ebcdic.proofs.Blanks.{trimmed-padded}
use Rattle.njh_ebcdic.specs.declared.name.NameFault.{NameFault}
use Rattle.njh_ebcdic.specs.declared.name.NameFault.TheVariants.{Empty, TooLong, BadCharacter}
use Rattle.njh_command.specs.declared.command.Command.{Command}
use Rattle.njh_command.specs.declared.command.Command.TheVariants as commands
use Rattle.njh_command.specs.Words.{command_in, file_command, name_in, node_in, reroute_command, says, words}
use Rattle.njh_command.specs.CommandLaws.{ReroutesNameNodes}

padded_eight : (word : List ℕ) → length word ≤ 8 → length (padded_field word) ≡ 8
padded_eight word short =
    let blanks : List ℕ = replicate {A = ℕ} (8 - length word) 0x40 in
    let whole : length (padded_field word) ≡ length word + length blanks = length-append word blanks in
    let many : length blanks ≡ 8 - length word = length-replicate (8 - length word) 0x40 in
    omega (arith, whole, many, short)

abbrev name_where : Bool → Bool → Bool → List ℕ → Result (List ℕ) NameFault
name_where empty long good word =
    cond empty (Err Empty) (cond long (Err TooLong) (cond good (Ok (padded_field word)) (Err BadCharacter)))

padded_is_name : (word : List ℕ) → length word ≤ 8 → is_empty word ≡ false → list_all is_name_byte word ≡ true
    → is_name (padded_field word) ≡ true
padded_is_name word short some good =
    let field = padded_field word in
    ap (λ (b : Bool). b && (not (is_empty (without_end_blanks field)) && list_all is_name_byte
    (without_end_blanks field)))
    (eq-eqb (length field) 8 (padded_eight word short))
    ∙ ap (λ (w : List ℕ). not (is_empty w) && list_all is_name_byte w) (trimmed-padded word good)
    ∙ ap (λ (b : Bool). not b && list_all is_name_byte word) some
    ∙ good

node_named : (word node : List ℕ) → node_in word ≡ Some node → is_name node ≡ true
node_named word node e = at_tests (is_empty word) (nat_lt 8 (length word)) (list_all is_name_byte word) refl refl refl
    e
  where
    at_tests :
        (empty long good : Bool) → is_empty word ≡ empty → nat_lt 8 (length word) ≡ long
        → list_all is_name_byte word ≡ good
        → result_ok (name_where empty long good word) ≡ Some node → is_name node ≡ true
    at_tests true long good some h all e = absurd (cc e)
    at_tests false true good some h all e = absurd (cc e)
    at_tests false false false some h all e = absurd (cc e)
    at_tests false false true some h all e =
        let same : padded_field word ≡ node = cc e in
        let short : length word ≤ 8 = omega (arith, ltb-false 8 (length word) h) in
        subst (λ n. is_name n ≡ true) same (padded_is_name word short some all)

-- a command is no REROUTE, or one to a node that is a name
abbrev HasName : Option Command → FileName → List ℕ → Type 0
HasName o name node = o ≡ Some (commands.Reroute name node) → is_name node ≡ true

no_reroute : (verb : List ℕ) (other name : FileName) (node : List ℕ) → HasName (file_command verb other) name node
no_reroute verb other name node =
    at_verbs (says (codes "HOLD") verb) (says (codes "RELEASE") verb) (says (codes "CANCEL") verb)
  where
    at_verbs :
        (a b c : Bool)
        → HasName (cond a (Some (commands.Hold other)) (cond b (Some (commands.Release other))
        (cond c (Some (commands.Cancel other)) None))) name node
    at_verbs true b c e = absurd (cc e)
    at_verbs false true c e = absurd (cc e)
    at_verbs false false true e = absurd (cc e)
    at_verbs false false false e = absurd (cc e)

rerouted_named : (ws : List (List ℕ)) (name : FileName) (node : List ℕ) → HasName (command_in ws) name node
rerouted_named [] name node e = absurd (cc e)
rerouted_named (verb ∷ []) name node e = at_verb (says (codes "LIST") verb) e
  where
    at_verb : (b : Bool) → HasName (cond b (Some commands.List) None) name node
    at_verb true e = absurd (cc e)
    at_verb false e = absurd (cc e)
rerouted_named (verb ∷ word ∷ []) name node e = at_name (name_in word) e
  where
    at_name : (o : Option FileName) → HasName (option_and_then (file_command verb) o) name node
    at_name None e = absurd (cc e)
    at_name (Some other) e = no_reroute verb other name node e
rerouted_named (verb ∷ word ∷ to ∷ []) name node e = at_name (name_in word) e
  where
    at_verb :
        (b : Bool) (other : FileName) (found : List ℕ) → node_in to ≡ Some found
        → HasName (cond b (Some (commands.Reroute other found)) None) name node
    at_verb true other found at e = let same : found ≡ node =
        cc e in subst (λ n. is_name n ≡ true) same (node_named to found at)
    at_verb false other found at e = absurd (cc e)

    at_node :
        (o : Option (List ℕ)) (other : FileName) → node_in to ≡ o
        → HasName (option_and_then (reroute_command verb other) o) name node
    at_node None other at e = absurd (cc e)
    at_node (Some found) other at e = at_verb (says (codes "REROUTE") verb) other found at e

    at_name :
        (o : Option FileName)
        → HasName (option_and_then (λ n. option_and_then (reroute_command verb n) (node_in to)) o) name node
    at_name None e = absurd (cc e)
    at_name (Some other) e = at_node (node_in to) other refl e
rerouted_named (verb ∷ word ∷ to ∷ more ∷ others) name node e = absurd (cc e)

pub nodes_are_names : ReroutesNameNodes
nodes_are_names message name node e = rerouted_named (words message) name node e
