-- What becomes of whole files by each move, whatever comes: which leave, and which have other records.
use Rattle.njh_customer.proofs.Words
use Words.{ℕ, Bool, true, false, cond, not, inl, inr, List, [], map, filter, refl, sym, ap, subst, eqb-true}
use Words.{Contains-push_cases, list_any-append, Contains, User, Item, FileName, WholeFile, Held, Ready, Refused}
use Words.{CustomerEntry, entry_marked, entries_of_routes, ready, is_whole, EofSent, is_of_name}
use Words.{may_change, is_sending, with_new_destination, without_file, no_file, Acts, Commands, Records, Routes, Order}
use Words.{by_record, by_sending, by_end, Sends, LeadsByMoves, nowhere, onward, MovesBy, without_files, Coming}
use Words.{RecordsChangeSo, LeavesBy, FilesLeaveSo, FilesLeaveSoBetween, entry_with, Outgoing, with_files, each_stream}
use Words.{has_file, State, with_arrival, Command, CommandMoves, OrdersCommand, is_name}
use Words.{is_rerouted, keeps_records, has_lost_route, held_file}
use Rattle.{std.proofs.Common.{◌≡◌, ◌&&◌, ◌==◌, ◌∷◌, ◌∙◌, ◌||◌}, njh_block.specs.Blocks.Data}
use Rattle.{njh_header.proofs.Redirected.redirected_is, njh_spool.specs.declared.State.TheVariants.Sending}
use Rattle.{njh_command.proofs.RerouteNodes.nodes_are_names, njh_customer.proofs.FileListLaws.{from_filter, from_map}}
use Rattle.njh_customer.proofs.FileListLaws.{into_map, from_where, any_numbered, changed_numbers, numbers, one_gone}
use Rattle.njh_customer.proofs.{FileListLaws.{same_numbered, but_states, changed_where}, RoutesMoves.held_so}
use Rattle.njh_customer.specs.MovingLaws.{FileMovesBy}
use Rattle.njh_command.specs.declared.command.Command.TheVariants as commands
use Rattle.njh_customer.specs.Moves as moves
use Rattle.njh_customer.specs.MovingLaws as laws

-- the streams give files up, and no file changes
pub without_files_files : (ns : List ℕ) (x : Outgoing) → (without_files ns x).files ≡ x.files
without_files_files [] x = refl
without_files_files (n ∷ ns) x = without_files_files ns (each_stream (without_file n) x)

without_files_arrived : (ns : List ℕ) (x : Outgoing) → (without_files ns x).arrived ≡ x.arrived
without_files_arrived [] x = refl
without_files_arrived (n ∷ ns) x = without_files_arrived ns (each_stream (without_file n) x)

-- ---- what a move does to the whole files

-- a user's command came, on a line or by an order
abbrev pub Given : CustomerEntry → Coming → User → Command → Type 0
Given entry (Records l items) who command =
    (up : Bool) × (i : Item) × Contains items i × Commands (entry_marked l up entry) who command i
Given entry (Routes routes) who command = ⊥
Given entry (Order order) who command = OrdersCommand who command order

-- the end of a file came, on a line
abbrev pub HasArrived : Coming → WholeFile → Type 0
HasArrived (Records l items) f = (i : Item) × (rcb : ℕ) × (srcb : ℕ) × Contains items i × (i ≡ Data rcb srcb [])
    × (is_whole f.records ≡ true) × (f.state ≡ Ready)
HasArrived (Routes routes) f = ⊥
HasArrived (Order order) f = ⊥

-- It changes no more than their states, a file comes, some go to another node, or some leave.
pub data FilesDo (entry : CustomerEntry) (came : Coming) (x y : Outgoing) : Type 0 where
  states : map ready y.files ≡ map ready x.files → y.arrived ≡ x.arrived → FilesDo entry came x y
  comes : (f : WholeFile) → HasArrived came f → y ≡ with_arrival f x → FilesDo entry came x y
  rerouted : (who : User) (name : FileName) (node : List ℕ) → Given entry came who (commands.Reroute name node)
      → y ≡ moves.with_changed (is_of_name who name) (with_new_destination node) x → FilesDo entry came x y
  leave : (p : WholeFile → Bool) → y.files ≡ filter (λ f. not (p f)) x.files → y.arrived ≡ x.arrived
      → ((f : WholeFile) → Contains x.files f → p f ≡ true → LeavesBy entry came f.number x)
      → FilesDo entry came x y

-- another node is a name
pub node_named : (entry : CustomerEntry) (came : Coming) (who : User) (name : FileName) (node : List ℕ)
    → Given entry came who (commands.Reroute name node) → is_name node ≡ true
node_named entry (Records l items) who name node (up, i, at, given) =
    nodes_are_names given.nodal.message name node given.says
node_named entry (Routes routes) who name node given = absurd given
node_named entry (Order order) who name node given = nodes_are_names given.text name node given.says

cancelled_leaves : (entry : CustomerEntry) (came : Coming) (who : User) (name : FileName) (f : WholeFile) (x : Outgoing)
    → Given entry came who (commands.Cancel name) → Contains x.files f → is_of_name who name f ≡ true
    → LeavesBy entry came f.number x
cancelled_leaves entry (Records l items) who name f x (up, i, at, given) there mine =
    (up, laws.cancelled i who name f at given there refl mine)
cancelled_leaves entry (Routes routes) who name f x given there mine = absurd given
cancelled_leaves entry (Order order) who name f x given there mine =
    record { who = who; name = name; file = f; given = given; there = there; number = refl; of_name = mine }

module _ (entry : CustomerEntry) (came : Coming) (x y : Outgoing) where
  -- by what it is after the move
  same_but_states : {z : Outgoing} → y ≡ z → map ready z.files ≡ map ready x.files → z.arrived ≡ x.arrived
      → FilesDo entry came x y
  same_but_states e files arrived =
      states (ap (λ w. map ready w.files) e ∙ files) (ap (λ w. w.arrived) e ∙ arrived)

  -- files that pass a test change in their states
  in_states : {z : Outgoing} (p : WholeFile → Bool) (state : State) → y ≡ z
      → z.files ≡ map (λ f. cond (p f) (record f { state = state }) f) x.files → z.arrived ≡ x.arrived
      → FilesDo entry came x y
  in_states p state e files = same_but_states e (ap (map ready) files
      ∙ changed_where ready p (λ f. record f { state = state }) x.files (λ f. refl))

  command_files : (judged : CustomerEntry) (who : User) (command : Command) → Given entry came who command
      → CommandMoves judged who command x y → FilesDo entry came x y
  command_files judged who command given (moves.holds name is e) =
      in_states (may_change (is_of_name who name)) Held e refl refl
  command_files judged who command given (moves.releases name is e) =
      in_states (may_change (is_of_name who name)) Ready e refl refl
  command_files judged who command given (moves.reroutes name node line is route e) =
      rerouted who name node (subst (Given entry came who) is given) e
  command_files judged who command given (moves.cancels name is e) =
      let p = is_of_name who name in
      let cut = with_files (filter (λ f. not (p f)) x.files) x in
      leave p (ap (λ z. z.files) e ∙ without_files_files (moves.busy_numbers p x.files) cut)
      (ap (λ z. z.arrived) e ∙ without_files_arrived (moves.busy_numbers p x.files) cut)
      (λ f. cancelled_leaves entry came who name f x (subst (Given entry came who) is given))

  pub sent_files : (judged : CustomerEntry) (l : ℕ) → Sends judged l x y → FilesDo entry came x y
  sent_files judged l (moves.gives_up k before e) = same_but_states e refl refl
  sent_files judged l (moves.asks k f few before found e) = in_states (λ g. g.number == f.number) Sending e refl refl
  sent_files judged l (moves.goes_on k m place r before found e) = same_but_states e refl refl
  sent_files judged l (moves.ends k m place before found e) = same_but_states e refl refl

record_files : (entry : CustomerEntry) (l : ℕ) (items : List Item) (x y : Outgoing) (up : Bool) (i : Item)
    → Contains items i → Acts (entry_marked l up entry) l i x y → FilesDo entry (Records l items) x y
record_files entry l items x y up i at (moves.comes rcb srcb f is waits whole e) =
    comes f (i, rcb, srcb, at, is, whole, waits) e
record_files entry l items x y up i at (moves.permitted streams k m told before e) =
    same_but_states entry (Records l items) x y e refl refl
record_files entry l items x y up i at (moves.refused streams k m after told before none e) =
    in_states entry (Records l items) x y (λ f. f.number == m) Refused e refl refl
record_files entry l items x y up i at (moves.completed streams k m told before e) =
    leave (λ f. f.number == m) (ap (λ z. z.files) e) (ap (λ z. z.arrived) e) (λ f there passes.
    (up, laws.completed i streams k at told (before ∙ ap EofSent (sym (eqb-true f.number m passes)))))
record_files entry l items x y up i at (moves.commands who command given move) =
    command_files entry (Records l items) x y (entry_marked l up entry) who command (up, i, at, given) move

pub files_do : (entry : CustomerEntry) (came : Coming) (x y : Outgoing) → MovesBy entry came x y
    → FilesDo entry came x y
files_do entry (Records l items) x y (up, by_record (i, at, acts)) = record_files entry l items x y up i at acts
files_do entry (Records l items) x y (up, by_sending sends) =
    sent_files entry (Records l items) x y (entry_marked l up entry) l sends
files_do entry (Records l items) x y (up, by_end over) = states over.files over.arrived
files_do entry (Routes routes) x y given = same_but_states entry (Routes routes) x y given.holds
    (changed_where ready (has_lost_route (entry_with (entries_of_routes routes) entry)) held_file x.files (λ f. refl))
    refl
files_do entry (Order order) x y move =
    command_files entry (Order order) x y entry move.who move.command move.given move.moves

-- ---- which leave

pub leaves_so : FilesLeaveSo
leaves_so entry came x y n move there gone = at_move (files_do entry came x y move)
  where
    stayed : {A : Type 0} → numbers y.files ≡ numbers x.files → A
    stayed same = absurd (cc (sym there ∙ sym (same_numbered n y.files x.files same) ∙ gone))

    at_move : FilesDo entry came x y → LeavesBy entry came n x
    at_move (states same arrived) = stayed (but_states y.files x.files same)
    at_move (comes f arrived e) =
        absurd (cc (sym (ap (λ z. any_numbered n z.files) e ∙ list_any-append (λ g. g.number == n) x.files (f ∷ [])
        ∙ ap (λ b. b || any_numbered n (f ∷ [])) there) ∙ gone))
    at_move (rerouted who name node given e) = stayed (ap (λ z. numbers z.files) e
        ∙ changed_numbers (is_of_name who name) (with_new_destination node) x.files (λ f. refl))
    at_move (leave p e arrived each) =
        let left = one_gone p n x.files there (sym (ap (any_numbered n) e) ∙ gone) in
        subst (λ m. LeavesBy entry came m x) left.2 (each left.0 left.1 left.3)

pub leaves_so_between : FilesLeaveSoBetween
leaves_so_between entry came _ _ n (nowhere x) there gone = absurd (cc (sym there ∙ gone))
leaves_so_between entry came _ _ n (onward x y z move later) there gone = at_next (has_file n y) refl
    (leaves_so_between entry came y z n later)
  where
    Between : Outgoing → Type 0
    Between x = (u : Outgoing) × LeadsByMoves (MovesBy entry came) x u × LeavesBy entry came n u × LeadsByMoves
        (MovesBy entry came) u z

    at_next : (b : Bool) → has_file n y ≡ b → (has_file n y ≡ true → has_file n z ≡ false → Between y) → Between x
    at_next true e further = let found = further e gone in (found.0, onward x y found.0 move found.1, found.2, found.3)
    at_next false e further = (x, nowhere x, leaves_so entry came x y n move there e, onward x y z move later)

-- ---- each file

-- a file is one of some with its records
abbrev IsOneOf : List WholeFile → WholeFile → Type 0
IsOneOf files g = (f : WholeFile) × Contains files f × (g.number ≡ f.number) × (g.kind ≡ f.kind)
    × (g.records ≡ f.records)

itself : (files : List WholeFile) (g : WholeFile) → Contains files g → IsOneOf files g
itself files g at = (g, at, refl, refl, refl)

but_state : (files now : List WholeFile) (g : WholeFile) → map ready now ≡ map ready files → Contains now g
    → IsOneOf files g
but_state files now g e at = let there : Contains (map ready files) (ready g) = subst (λ fs. Contains fs (ready g)) e
    (into_map ready now g at) in
    let found = from_map ready files no_file (ready g) there in
    (found.0, found.1, ap (λ h. h.number) found.2, ap (λ h. h.kind) found.2, ap (λ h. h.records) found.2)

pub both_are : (a b : Bool) → (a && not b) ≡ true → (a ≡ true) × (b ≡ false)
both_are true true e = absurd (cc e)
both_are true false e = (refl, refl)
both_are false b e = absurd (cc e)

module _ (entry : CustomerEntry) (x : Outgoing) (g : WholeFile) where
  arrived_so : (came : Coming) → HasArrived came g → FileMovesBy entry came x g
  arrived_so (Records l items) (i, rcb, srcb, at, is, whole, waits) = (true, laws.comes i rcb srcb at is whole waits)
  arrived_so (Routes routes) arrived = absurd arrived
  arrived_so (Order order) arrived = absurd arrived

  -- it was another, which wasn't being sent
  rerouted_so : (came : Coming) (who : User) (name : FileName) (node : List ℕ) (f : WholeFile)
      → Given entry came who (commands.Reroute name node) → Contains x.files f
      → (is_of_name who name f && not (is_sending f.state)) ≡ true → g ≡ with_new_destination node f
      → FileMovesBy entry came x g
  rerouted_so (Records l items) who name node f (up, i, at, given) found e is =
      let idle = both_are (is_of_name who name f) (is_sending f.state) e in (
        up,
        laws.rerouted i who name node f at given found idle.0 idle.1 (ap (λ h. h.number) is) (ap (λ h. h.kind) is)
            (node_named entry (Records l items) who name node (up, i, at, given))
            (ap (λ h. h.records) is ∙ sym (redirected_is f.kind node f.records)),
      )
  rerouted_so (Routes routes) who name node f given found e is = absurd given
  rerouted_so (Order order) who name node f given found e is =
      let idle = both_are (is_of_name who name f) (is_sending f.state) e in
      is_rerouted who name node f given found idle.0 idle.1 (ap (λ h. h.number) is) (ap (λ h. h.kind) is)
      (node_named entry (Order order) who name node given)
      (ap (λ h. h.records) is ∙ sym (redirected_is f.kind node f.records))

  -- where one that was there with its records is one that may be
  changes : (came : Coming) (y : Outgoing) → (IsOneOf x.files g → FileMovesBy entry came x g) → FilesDo entry came x y
      → Contains y.files g → FileMovesBy entry came x g
  changes came y was (states same arrived) there = was (but_state x.files y.files g same there)
  changes came y was (comes f arrived e) there =
      elim (Contains-push_cases x.files f g (subst (λ z. Contains z.files g) e there)) [
        | inl old ↦ was (itself x.files g old)
        | inr new ↦ arrived_so came (subst (HasArrived came) new arrived)
      ]
  changes came y was (rerouted who name node given e) there =
      elim (from_where (may_change (is_of_name who name)) (with_new_destination node) x.files g
      (subst (λ z. Contains z.files g) e there)) [
        | inl (f, found, e, is) ↦ rerouted_so came who name node f given found e is
        | inr (found, e) ↦ was (itself x.files g found)
      ]
  changes came y was (leave p e arrived each) there =
      was (itself x.files g (from_filter (λ f. not (p f)) x.files g (subst (λ fs. Contains fs g) e there)))

pub records_change : RecordsChangeSo
records_change entry (Records l items) x y g move there =
    changes entry x g (Records l items) y (λ one. (true, laws.stays one.0 one.1 one.2 one.3 one.4))
    (files_do entry (Records l items) x y move) there
records_change entry (Routes routes) x y g given there =
    held_so (entry_with (entries_of_routes routes) entry) x g (subst (λ z. Contains z.files g) given.holds there)
records_change entry (Order order) x y g move there =
    changes entry x g (Order order) y (λ one. keeps_records one.0 one.1 one.2 one.3 one.4)
    (files_do entry (Order order) x y move) there
