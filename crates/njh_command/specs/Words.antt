-- What a message of a user commands: its words, and the command that they are.
use Rattle.std.specs.Prelude.{ℕ, Bool, List, [], ◌∷◌, length, map, filter, Option, Some, None, ◌==◌, nat_le, cond, not}
use Rattle.std.specs.Prelude.{◌&&◌, bytes_eq, codes}
use Rattle.std.specs.List.{list_all, slice_split}
use Rattle.std.specs.Option.{option_map, option_and_then}
use Rattle.std.specs.Result.{result_ok}
use Rattle.njh_header.specs.FileNames.{FileName}
use Rattle.njh_ebcdic.specs.Names.{ebcdic, is_empty, upper, within}
use Rattle.njh_ebcdic.specs.Reading.{name_of_word}
use Rattle.njh_texts.specs.Decimals.{decimal_value}
use Rattle.njh_command.specs.declared.command.Command.{Command}
use Rattle.njh_command.specs.declared.command.Command.TheVariants as commands

abbrev pub is_blank : ℕ → Bool
is_blank b = b == 0x40

abbrev pub is_full_stop : ℕ → Bool
is_full_stop b = b == 0x4b

abbrev pub is_word : List ℕ → Bool
is_word part = not (is_empty part)

-- the words of a message: it is folded to capitals and split at blanks
abbrev pub words : List ℕ → List (List ℕ)
words message = filter is_word (slice_split is_blank (map upper message))

-- 1 to 5 digits of value at most 65,535
abbrev pub is_decimal_word : List ℕ → Bool
is_decimal_word word =
    is_word word && (nat_le (length word) 5 && (list_all (within 0xf0 0xf9) word && nat_le (decimal_value word) 65535))

abbrev pub number_in : List ℕ → Option ℕ
number_in word = cond (is_decimal_word word) (Some (decimal_value word)) None

-- the node of 1 to 8 characters that a word is
abbrev pub node_in : List ℕ → Option (List ℕ)
node_in word = result_ok (name_of_word word)

-- a file's name: a node, a full stop and a number
abbrev pub name_of_parts : List (List ℕ) → Option FileName
name_of_parts [] = None
name_of_parts (node ∷ []) = None
name_of_parts (node ∷ number ∷ []) =
    option_and_then (λ n. option_map (λ k. record { node = n; number = k }) (number_in number)) (node_in node)
name_of_parts (node ∷ number ∷ more ∷ others) = None

abbrev pub name_in : List ℕ → Option FileName
name_in word = name_of_parts (slice_split is_full_stop word)

-- whether a word is one of the hub's
abbrev pub says : List ℕ → List ℕ → Bool
says text word = bytes_eq word (ebcdic text)

-- the verbs with a file's name
abbrev pub file_command : List ℕ → FileName → Option Command
file_command verb name =
    cond (says (codes "HOLD") verb) (Some (commands.Hold name))
    (cond (says (codes "RELEASE") verb) (Some (commands.Release name))
    (cond (says (codes "CANCEL") verb) (Some (commands.Cancel name)) None))

-- the verb with a file's name and a node
abbrev pub reroute_command : List ℕ → FileName → List ℕ → Option Command
reroute_command verb name node = cond (says (codes "REROUTE") verb) (Some (commands.Reroute name node)) None

-- LIST; HOLD name; RELEASE name; CANCEL name; REROUTE name node
abbrev pub command_in : List (List ℕ) → Option Command
command_in [] = None
command_in (verb ∷ []) = cond (says (codes "LIST") verb) (Some commands.List) None
command_in (verb ∷ name ∷ []) = option_and_then (file_command verb) (name_in name)
command_in (verb ∷ name ∷ node ∷ []) =
    option_and_then (λ n. option_and_then (reroute_command verb n) (node_in node)) (name_in name)
command_in (verb ∷ name ∷ node ∷ more ∷ others) = None

-- The command that a message is.
abbrev pub command_of : List ℕ → Option Command
command_of message = command_in (words message)
