-- What the arguments name, from the matches of a parse.
use Rattle.std.proofs.Common.{◌≡◌, Result, Ok, Err, OnOk, IfOk, IfErr, Bool, true, false, cond, List, [], ◌∷◌, map}
use Rattle.std.proofs.Common.{Option, Some, None, option_and_then, refl, sym, ap, subst, ◌∙◌, ◌↔◌, IsTrue}
use Rattle.std.specs.Prelude.{codes, find, is_some, option_map, slice_get, bytes_eq, unwrap_or}
use Rattle.std.specs.Option.{option_map_or}
use Rattle.std.proofs.lemmas.Option.{slice_get-map}
use Rattle.std.proofs.lemmas.Slice.Eq.{bytes_eq-Decides}
use Rattle.std.specs.Box.{box_value}
use Rattle.clap.proofs.OnLiterals.{clap_on_literals}
use Rattle.clap.specs.Faults.{is_simple_and_free}
use Rattle.clap.specs.Matches.{found_of, first_value, matched_of, raw_values, subcommand_name_of}
use Rattle.clap.specs.Simple.{is_simple, subcommand_rows_of}
use Rattle.clap.specs.Walk.{Row, Text, all_of, first_of, row_of, rows_of}
use Rattle.clap.specs.Kinds.{FailsBy, Kinds, HasKind}
use Rattle.clap.specs.declared.error.Error.{Error}
use Rattle.clap.specs.declared.parser.matches.ArgMatches.{ArgMatches}
use Rattle.clap.specs.declared.parser.matches.ArgMatches.TheViews.{out-ArgMatches, out-SubCommand}
use Rattle.njh_arguments.specs.declared.arguments.Request.{Request}
use Rattle.njh_arguments.specs.declared.serve_options.Unasked.{Unasked}
use Rattle.njh_arguments.specs.declared.serve_options.Unasked.TheVariants.{Missing, NoAddress, NoCommand, NoFormat, Nothing}
use Rattle.njh_arguments.specs.declared.serve_options.Unasked.TheVariants.{Unclear}
use Rattle.njh_arguments.specs.Arguments.{AreUnclear, AsksFor, AsksIn, HasNoAddress, HasNoCommand, HasNoFormat}
use Rattle.njh_arguments.specs.Arguments.{HasNothing, IsUnasked}
use Rattle.njh_arguments.specs.Choices.{Given, given_of}
use Rattle.njh_arguments.specs.Commands.{CommandView, command_asked, command_in, given_in, is_set_in}
use Rattle.njh_arguments.specs.declared.console_words.CommandOptions.{CommandOptions}
use Rattle.njh_arguments.specs.Arguments.{IsTarget, IsUnaskedBy, IsUnclear, PrintsNothing, is_given}
use Rattle.njh_arguments.specs.Arguments.{program_app}

cond-map : {X Y : Type 0} (f : X → Y) (b : Bool) (x : X) (o : Option Y) (later : Option X) → o ≡ option_map f later
    → cond b (Some (f x)) o ≡ option_map f (cond b (Some x) later)
cond-map f true x o later same = refl
cond-map f false x o later same = same

find-map : {X Y : Type 0} (f : X → Y) (p : Y → Bool) (xs : List X)
    → find p (map f xs) ≡ option_map f (find (λ x. p (f x)) xs)
find-map f p [] = refl
find-map f p (x ∷ xs) = cond-map f (p (f x)) x (find p (map f xs)) (find (λ y. p (f y)) xs) (find-map f p xs)

at_entry : {X Y : Type 0} (o : Option X) (to : X → Y) (read : Y → Option Text) (row : X → Row)
    → ((x : X) → read (to x) ≡ slice_get (row x).values 0)
    → option_and_then read (option_map to o) ≡ option_and_then (λ r. slice_get r.values 0) (option_map row o)
at_entry None to read row same = refl
at_entry (Some x) to read row same = same x

-- the first value of an id, by the rows
pub first_value-rows : (m : ArgMatches) (id : Text) → first_value (found_of m) id ≡ first_of id (rows_of (found_of m))
first_value-rows m id =
    let entries = (found_of m).entries.items in
    at_entry (find (λ e. bytes_eq e.0.now id) entries) (λ e. e.1)
    (λ a. option_map (λ s. s.now) (slice_get a.vals.items 0)) row_of
    (λ e. sym (slice_get-map (λ s. s.now) e.1.vals.items 0))
    ∙ ap (option_and_then (λ r. slice_get r.values 0)) (sym (find-map row_of (λ r. bytes_eq r.id id) entries))

-- a pair by its halves
pair_of : {X : Type 0} (f : X → Text) (g : X → List Row) (o : Option X) (name : Text) (rows : List Row)
    → Some name ≡ option_map f o → Some rows ≡ option_map (λ (p : Text × List Row). p.1)
    (option_map {U = Text × List Row} (λ x. (f x, g x)) o)
    → option_map {U = Text × List Row} (λ x. (f x, g x)) o ≡ Some (name, rows)
pair_of f g None name rows first second = cc first
pair_of f g (Some x) name rows first second =
    let named : name ≡ f x = cc first in
    let rowed : rows ≡ g x = cc second in
    rw (named, rowed) refl

-- the subcommand of a parse, by its name and its rows
pub subcommand_is : (m : ArgMatches) (name : Text) (rows : List Row) → Some name ≡ subcommand_name_of m
    → Some rows ≡ option_map (λ (p : Text × List Row). p.1) (subcommand_rows_of m)
    → subcommand_rows_of m ≡ Some (name, rows)
subcommand_is m name rows named rowed =
    pair_of (λ b. (out-SubCommand (box_value b)).name.now)
    (λ b. rows_of (found_of (out-SubCommand (box_value b)).matches)) (out-ArgMatches m).subcommand name rows named rowed

-- the program's own arguments are simple, as clap's definitions have it
pub is_simple_program : is_simple program_app ≡ true
unfolding clap_on_literals
is_simple_program = refl

pub is_free_program : is_simple_and_free program_app ≡ true
unfolding clap_on_literals
is_free_program = refl

-- what a parse that may fail by these kinds says of each answer
pub FailsBy-ok : {A : Type 0} (kinds : Kinds) (r : Result A Error) → FailsBy kinds r → OnOk r (kinds ≡ [])
FailsBy-ok kinds (Ok x) fails = fails
FailsBy-ok kinds (Err e) fails = tt

pub FailsBy-err : {A : Type 0} (kinds : Kinds) (r : Result A Error) → FailsBy kinds r → IfErr r (HasKind kinds)
FailsBy-err kinds (Ok x) fails = tt
FailsBy-err kinds (Err e) fails = fails

-- what is asked for by the rows of a subcommand, or why nothing is
pub asks_in : {A : Type 0} (m : ArgMatches) (named : Text × List Row) → subcommand_rows_of m ≡ Some named
    → (r : Result Request A) → IfOk r (AsksFor named) → IfOk r (AsksIn (subcommand_rows_of m))
asks_in m named is (Err why) asks = tt
asks_in m named is (Ok request) asks = subst (λ (o : Option (Text × List Row)). AsksIn o request) (sym is) asks

pub serves_refused : (m : ArgMatches) (named : Text × List Row) → subcommand_rows_of m ≡ Some named
    → (r : Result Request Unasked)
    → IfErr r (IsUnasked named.1) → IfErr r (IsUnaskedBy (subcommand_rows_of m))
serves_refused m named is (Ok request) unasked = tt
serves_refused m named is (Err Missing) unasked = tt
serves_refused m named is (Err Nothing) unasked = subst HasNothing (sym is) unasked
serves_refused m named is (Err (NoAddress text)) unasked = subst HasNoAddress (sym is) unasked
serves_refused m named is (Err (NoFormat text)) unasked = subst HasNoFormat (sym is) unasked
serves_refused m named is (Err (NoCommand word)) unasked = subst HasNoCommand (sym is) unasked
serves_refused m named is (Err Unclear) unasked = subst AreUnclear (sym is) unasked

-- whether a flag is set, by its text
pub flag_value : (flag : Text) (rows : List Row) (o : Option Text) → first_of flag rows ≡ o
    → is_set_in flag rows ≡ option_map_or (λ text. bytes_eq text (codes "true")) o false
flag_value flag rows o is = ap (λ (t : Option Text). option_map_or (λ text. bytes_eq text (codes "true")) t false) is

at_values : {X Y : Type 0} (o : Option X) (to : X → Y) (read : Y → List Text) (row : X → Row)
    → ((x : X) → read (to x) ≡ (row x).values)
    → option_map read (option_map to o) ≡ option_map (λ r. r.values) (option_map row o)
at_values None to read row same = refl
at_values (Some x) to read row same = ap (λ (v : List Text). Some v) (same x)

-- all values of an id, by the rows
pub all_values-rows : (m : ArgMatches) (id : Text)
    → option_map raw_values (matched_of (found_of m) id) ≡ all_of id (rows_of (found_of m))
all_values-rows m id =
    let entries = (found_of m).entries.items in
    at_values (find (λ e. bytes_eq e.0.now id) entries) (λ e. e.1) raw_values row_of (λ e. refl)
    ∙ ap (option_map (λ r. r.values)) (sym (find-map row_of (λ r. bytes_eq r.id id) entries))

given_fields : {owner own node at state so kind of older age : Option Text}
    {when_idle idle dry_run dry quiet still : Bool} → owner ≡ own → node ≡ at → state ≡ so → kind ≡ of → older ≡ age
    → when_idle ≡ idle → dry_run ≡ dry → quiet ≡ still
    → ◌≡◌ {A = Given} (record {
      owner = owner;
      node = node;
      state = state;
      kind = kind;
      older = older;
      when_idle = when_idle;
      dry_run = dry_run;
      quiet = quiet;
    })
    (record {
      owner = own;
      node = at;
      state = so;
      kind = of;
      older = age;
      when_idle = idle;
      dry_run = dry;
      quiet = still;
    })
given_fields owner node state kind older idle dry quiet =
    rw (owner, node, state, kind, older, idle, dry, quiet) refl

-- the options beside a command, by the rows
pub given_is : (given : CommandOptions) (rows : List Row)
    → option_map (λ text. text.now) given.owner ≡ first_of (codes "owner") rows
    → option_map (λ text. text.now) given.node ≡ first_of (codes "node") rows
    → option_map (λ text. text.now) given.state ≡ first_of (codes "state") rows
    → option_map (λ text. text.now) given.kind ≡ first_of (codes "kind") rows
    → option_map (λ text. text.now) given.older ≡ first_of (codes "older") rows
    → given.when_idle ≡ is_set_in (codes "when-idle") rows
    → given.dry_run ≡ is_set_in (codes "dry-run") rows
    → given.quiet ≡ is_set_in (codes "quiet") rows → given_of given ≡ given_in rows
given_is given rows owner node state kind older idle dry quiet =
    given_fields owner node state kind older idle dry quiet

-- the command that rows are, by its words and the options beside them
pub command_is : (rows : List Row) (words : List Text) (given : Given) (found : Option CommandView)
    → all_of (codes "command") rows ≡ Some words → given ≡ given_in rows → found ≡ command_in words given
    → command_asked rows ≡ found
command_is rows words given found all same is =
    ap (λ (w : Option (List Text)). command_in (unwrap_or w []) (given_in rows)) all
    ∙ sym (is ∙ ap (command_in words) same)

-- a text that is tested for a word
pub spells_word : (b : Bool) (text word : Text) → b ≡ bytes_eq text word → IsTrue b ↔ (Some text ≡ Some word)
spells_word b text word same =
    let d = bytes_eq-Decides text word in
    (λ yes. ap (λ (t : Text). Some t) (d.0 (sym same ∙ yes)), λ e. let is : text ≡ word = cc e in same ∙ d.1 is)

pub is_some-map : {X Y : Type 0} (f : X → Y) (o : Option X) → is_some (option_map f o) ≡ is_some o
is_some-map f None = refl
is_some-map f (Some x) = refl

is_some-not : {X : Type 0} (o : Option X) (x : X) → o ≡ Some x → o ≡ None → ⊥
is_some-not o x is none = let bad : Some x ≡ None = sym is ∙ none in cc bad

no_target : (rows : List Row) (into : Text) → first_of (codes "into") rows ≡ Some into
    → (PrintsNothing rows → is_given (codes "compact") rows ≡ false → is_given (codes "customer") rows ≡ true → ⊥)
    → (other : Text) (is_new : Bool) → IsTarget rows other is_new → ⊥
no_target rows into given none other false target = none target.0 target.2 target.3
no_target rows into given none other true target = is_some-not (first_of (codes "into") rows) into given target.1

-- files are to be copied into a spool file that may be there, and it isn't clear which
pub unclear-into : (rows : List Row) (into : Text) → first_of (codes "into") rows ≡ Some into
    → (PrintsNothing rows → is_given (codes "compact") rows ≡ false → is_given (codes "customer") rows ≡ true → ⊥)
    → IsUnclear rows
unclear-into rows into given none = (
  λ nothing. is_some-not (first_of (codes "into") rows) into given nothing.0,
  λ other is_new target. no_target rows into given none other is_new target,
)

prints_nothing : (rows : List Row) (into : Text) (is_new : Bool) → IsTarget rows into is_new → PrintsNothing rows
prints_nothing rows into false target = target.0
prints_nothing rows into true target = target.0

-- into a new one
pub unclear-new : (rows : List Row) (into : Text) → first_of (codes "into") rows ≡ None
    → first_of (codes "compact") rows ≡ Some into → ¬ PrintsNothing rows → IsUnclear rows
unclear-new rows into none given printing = (
  λ nothing. is_some-not (first_of (codes "compact") rows) into given nothing.1,
  λ other is_new target. printing (prints_nothing rows other is_new target),
)
