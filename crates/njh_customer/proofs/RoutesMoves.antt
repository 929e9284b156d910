-- What new routes do to a customer.
use Rattle.njh_customer.proofs.Words
use Words.{cond, List, [], map, Ok, Err, refl, sym, inl, inr, ℕ, Bool, true, false, not, Option, Some, None, Contains}
use Words.{is_name, User, destination_of, WholeFile, CustomerEntry, route_of, Walked, NewRoute, routes_checked, Route}
use Words.{Here, Line, has_lost_route, held_file, destination_unrouted, is_unknown, destination_goes_by, is_line}
use Words.{with_marks, LeadsByMoves, nowhere, onward, RoutesMove, RoutesDo, RoutesDoSo, RoutesMoveFile, is_as_before}
use Words.{is_held, entry_with, taken_where, routes_given, UnroutedFilesStay, customer_with_routes, Outgoing, outgoing}
use Words.{Part, RoutesKeepCoherent}
use Rattle.{std.proofs.Common.{◌≡◌, ◌∙◌, ◌&&◌, ◌||◌}}
use Rattle.njh_customer.proofs.{FileListLaws.{numbers, changed_where, from_where}, Restated.held_restated}
use Rattle.njh_customer.proofs.{CoherenceLaws.{coherent_still}, Restated.{restated_harmless}}

pub routes_do : RoutesDoSo
routes_do p routes = at_check (routes_checked p.customer.entry routes) refl
  where
    at_check : (w : Walked (Unit {0})) → routes_checked p.customer.entry routes ≡ w
        → RoutesDo p routes (record { after = taken_where w routes p; sent = [] })
    at_check (Ok faultless) e = record {
      sent = refl;
      rests = refl;
      lines = refl;
      partial = refl;
      faultless = λ is. refl;
      faulty = λ fault is. absurd (cc (sym e ∙ is));
    }
    at_check (Err found) e = record {
      sent = refl;
      rests = refl;
      lines = refl;
      partial = refl;
      faultless = λ is. absurd (cc (sym e ∙ is));
      faulty = λ fault is. refl;
    }

pub routes_move :
    (p : Part) (routes : List NewRoute) → LeadsByMoves (RoutesMove p.customer.entry routes) (outgoing p.customer)
    (outgoing (routes_given routes p).customer)
routes_move p routes = (elim (routes_checked p.customer.entry routes) as
    (λ w. routes_checked p.customer.entry routes ≡ w
    → LeadsByMoves (RoutesMove p.customer.entry routes) (outgoing p.customer)
    (outgoing (taken_where w routes p).customer)) [
      | Ok faultless ↦ λ e. let y = outgoing (taken_where (Ok faultless) routes p).customer in
          onward (outgoing p.customer) y y (record { faultless = e; holds = refl }) (nowhere y)
      | Err found ↦ λ e. nowhere (outgoing p.customer)
    ]) refl

pub routes_keep_entry : (p : Part) (routes : List NewRoute) → let after = (routes_given routes p).customer.entry in
    after ≡ entry_with after.routes (with_marks after.up p.customer.entry)
routes_keep_entry p routes = elim (routes_checked p.customer.entry routes) as (λ w.
    let after = (taken_where w routes p).customer.entry in
    after ≡ entry_with after.routes (with_marks after.up p.customer.entry)) [ Ok faultless ↦ refl | Err found ↦ refl ]

-- ---- a file

abbrev held_where : CustomerEntry → WholeFile → WholeFile
held_where entry f = cond (has_lost_route entry f) (held_file f) f

pub held_numbers : (entry : CustomerEntry) (fs : List WholeFile) → numbers (map (held_where entry) fs) ≡ numbers fs
held_numbers entry fs = changed_where (λ f. f.number) (has_lost_route entry) held_file fs (λ f. refl)

pub held_so : (entry : CustomerEntry) (x : Outgoing) (g : WholeFile) → Contains (map (held_where entry) x.files) g
    → RoutesMoveFile entry x g
held_so entry x g at = elim (from_where (has_lost_route entry) held_file x.files g at) [
  | inl (f, there, e, is) ↦ is_held f there e is
  | inr (there, e) ↦ is_as_before there e
]

-- ---- what stays so

pub coherent_given : RoutesKeepCoherent
coherent_given routes c = coherent_still (customer_with_routes routes c) c (record {
  entry = (refl, refl, refl);
  lines = refl;
  files = restated_harmless c.spool (customer_with_routes routes c).spool
      (held_restated (entry_with routes c.entry) c.spool);
})

no_line : (named : Bool) (r : Route) (l : ℕ) → (not named || is_unknown r) ≡ true → (named && is_line l r) ≡ false
no_line true (Line n) l e = absurd (cc e)
no_line true Here l e = refl
no_line _ r l e = refl

pub unrouted_stay : UnroutedFilesStay
unrouted_stay entry l f = at_destination (destination_of f.kind f.records)
  where
    at_destination : (o : Option User) → destination_unrouted entry o ≡ true → destination_goes_by entry l o ≡ false
    at_destination None e = refl
    at_destination (Some d) e = no_line (is_name d.node) (route_of entry d.node) l e
