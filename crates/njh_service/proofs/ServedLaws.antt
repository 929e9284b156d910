-- Lines that are served, each at its own site.
use Rattle.std.proofs.Common.{◌≡◌, ℕ, ◌+◌, ◌<◌, ◌≤◌, List, [], ◌∷◌, ◌++◌, length, map, drop, get_or, take, sym, ap, ◌∙◌}
use Rattle.std.proofs.Common.{append_assoc, arith, subst, ⊎_elim}
use Rattle.std.proofs.lemmas.Bool.{cases_lt}
use Rattle.std.proofs.lemmas.List.{drop-drop, get_or-drop, get_or_default, length-append, length-map, map-append}
use Rattle.std.proofs.lemmas.List.{take_more}
use Rattle.std.proofs.Math.ListN.{get_or-append, get_or-map}
use Rattle.std.proofs.Math.Seq.{get_or-append_seam}
use Rattle.std.specs.declared.net.ip_addr.IpAddr.{IpAddr}
use Rattle.std.specs.declared.net.socket_addr.SocketAddr.{SocketAddr}
use Rattle.njh_table.specs.TableFile.{TableFile, table_line}
use Rattle.njh_table.specs.declared.LineId.{LineId}
use Rattle.njh_table.specs.declared.address_range.AddressRange.{AddressRange}
use Rattle.njh_table.specs.declared.Protocol.{Protocol}
use Rattle.njh_wire.specs.Standing.{Standing}
use Rattle.njh_sites.specs.Opened.{site_on, site_opened}
use Rattle.njh_service.specs.Serving.{ArePlaced}
use Rattle.njh_lines.specs.Watching.{served_on, ServedLine}
use Rattle.njh_sites.specs.declared.door.Door.{Door}
use Rattle.njh_sites.specs.declared.endpoints.Endpoint.{Endpoint}
use Rattle.njh_request.specs.declared.request.LineState.TheVariants.{Started}
use Rattle.njh_sites.specs.declared.site.Site.{Site}

-- what a function gives of one item more
map_more : {X Y : Type 0} (f : X → Y) (xs : List X) (n : ℕ) (d : X) → n < length xs
    → map f (take (n + 1) xs) ≡ map f (take n xs) ++ f (get_or xs n d) ∷ []
map_more f xs n d within = ap (map f) (take_more xs n d within) ∙ map-append f (take n xs) (get_or xs n d ∷ [])

-- there are as many sites as endpoints
pub as_many : {L : Type 0} (address_of : L → SocketAddr) (address : IpAddr) (es : List Endpoint)
    (sites : List (Site (Door L) SocketAddr))
    → map (site_opened address_of) sites ≡ map (λ (e : Endpoint). site_on address e.site) es
    → length sites ≡ length es
as_many address_of address es sites same =
    sym (length-map sites (site_opened address_of))
    ∙ (ap length same ∙ length-map es (λ (e : Endpoint). site_on address e.site))

-- the site at a place is that of the endpoint there
its_site : {L : Type 0} (address_of : L → SocketAddr) (address : IpAddr) (es : List Endpoint)
    (sites : List (Site (Door L) SocketAddr)) (n : ℕ) (d : Endpoint) (site : Site (Door L) SocketAddr)
    → map (site_opened address_of) sites ≡ map (λ (e : Endpoint). site_on address e.site) es
    → n < length es → site ≡ get_or sites n site
    → site_opened address_of site ≡ site_on address (get_or es n d).site
its_site {L} address_of address es sites n d site same within read =
    let on : Endpoint → Site (IpAddr × ℕ) SocketAddr = λ e. site_on address e.site in
    let there : n < length (map on es) = omega (arith, within, length-map es on) in
    ap (site_opened address_of) read
    ∙ (sym (get_or-map (site_opened address_of) sites n site)
    ∙ (ap (λ (ys : List (Site (IpAddr × ℕ) SocketAddr)). get_or ys n (site_opened address_of site)) same
    ∙ (get_or_default (map on es) n (site_opened address_of site) (on d) there
    ∙ get_or-map on es n d)))

-- from where it takes connections, in other words
pub added_from : (lines after : List ServedLine) (id : LineId) (site : Site (IpAddr × ℕ) SocketAddr)
    (from own : List AddressRange) → from ≡ own
    → after ≡ lines ++ record { id = id; site = site; from = from; state = Started } ∷ []
    → after ≡ lines ++ record { id = id; site = site; from = own; state = Started } ∷ []
added_from lines after id site from own same added =
    added
    ∙ ap (λ (its : List AddressRange). lines ++ record { id = id; site = site; from = its; state = Started } ∷ []) same

-- one more is served
pub served_more : {L : Type 0} (address_of : L → SocketAddr) (tables : TableFile) (es : List Endpoint)
    (sites : List (Site (Door L) SocketAddr)) (n : ℕ) (d : Endpoint) (site : Site (Door L) SocketAddr)
    (old before told after : List ServedLine)
    → ((address : IpAddr) → map (site_opened address_of) sites ≡ map (λ (e : Endpoint). site_on address e.site) es
    → before ≡ old ++ map (served_on tables address) (take n es))
    → n < length es → site ≡ get_or sites n site → told ≡ before
    → after ≡ told ++ record {
      id = (get_or es n d).line;
      site = site_opened address_of site;
      from = (table_line tables (get_or es n d).line).from;
      state = Started;
    } ∷ []
    → (address : IpAddr) → map (site_opened address_of) sites ≡ map (λ (e : Endpoint). site_on address e.site) es
    → after ≡ old ++ map (served_on tables address) (take (n + 1) es)
served_more address_of tables es sites n d site old before told after so_far within read still one address same =
    let front = map (served_on tables address) (take n es) in
    let line = (get_or es n d).line in
    let own : Site (IpAddr × ℕ) SocketAddr → ServedLine = λ s.
    record { id = line; site = s; from = (table_line tables line).from; state = Started } in
    let its = its_site address_of address es sites n d site same within read in
    one
    ∙ (ap (λ (xs : List ServedLine). xs ++ own (site_opened address_of site) ∷ []) (still ∙ so_far address same)
    ∙ (append_assoc old front (own (site_opened address_of site) ∷ [])
    ∙ (ap (λ (s : Site (IpAddr × ℕ) SocketAddr). old ++ (front ++ own s ∷ [])) its
    ∙ ap (λ (xs : List ServedLine). old ++ xs) (sym (map_more (served_on tables address) es n d within)))))

-- the first of those that are left
pub next_left : {X : Type 0} (xs : List X) (n : ℕ) (x : X) (ys : List X) → drop n xs ≡ x ∷ ys
    → (x ≡ get_or xs n x) × (ys ≡ drop (n + 1) xs)
next_left {X} xs n x ys left =
    let read : get_or (drop n xs) 0 x ≡ get_or xs n x =
    get_or-drop n xs 0 x ∙ ap (λ (k : ℕ). get_or xs k x) (omega arith) in
    let rest : drop 1 (drop n xs) ≡ drop (n + 1) xs = drop-drop 1 n xs in
    (sym (ap (λ (zs : List X). get_or zs 0 x) left) ∙ read, sym (ap (λ (zs : List X). drop 1 zs) left) ∙ rest)

-- a wire more stands at its place
pub placed_more : {C : Type 0} (wires new : List (Standing C)) (wire : Standing C) (place : ℕ)
    → new ≡ wires ++ wire ∷ [] → length wires ≡ place → wire.place ≡ place → ArePlaced wires → ArePlaced new
placed_more {C} wires new wire place added many own placed =
    let Placed : List (Standing C) → Type 0 = λ ws. ArePlaced ws in
    subst Placed (sym added) (λ p d within. ⊎_elim
    (λ (earlier : p < length wires).
    ap (λ (w : Standing C). w.place) (get_or-append wires (wire ∷ []) d p earlier) ∙ placed p d earlier)
    (λ (last : length wires ≤ p).
    let here : p ≡ length wires = omega (arith, last, within, length-append wires (wire ∷ [])) in
    ap (λ (n : ℕ). (get_or (wires ++ wire ∷ []) n d).place) here
    ∙ (ap (λ (w : Standing C). w.place) (get_or-append_seam wires wire [] d) ∙ (own ∙ (sym many ∙ sym here))))
    (cases_lt p (length wires)))

-- and waits by the rules of its line's protocol
pub protocols_more : {C : Type 0} (endpoints : List Endpoint) (wires new : List (Standing C)) (wire : Standing C)
    (place : ℕ) (d : Endpoint) → new ≡ wires ++ wire ∷ [] → place < length endpoints
    → wire.protocol ≡ (get_or endpoints place d).protocol
    → map (λ (w : Standing C). w.protocol) wires ≡ map (λ (e : Endpoint). e.protocol) (take place endpoints)
    → map (λ (w : Standing C). w.protocol) new ≡ map (λ (e : Endpoint). e.protocol) (take (place + 1) endpoints)
protocols_more {C} endpoints wires new wire place d added within own so_far =
    let of_wire : Standing C → Protocol = λ w. w.protocol in
    let of_end : Endpoint → Protocol = λ e. e.protocol in
    ap (map of_wire) added
    ∙ (map-append of_wire wires (wire ∷ [])
    ∙ (ap (λ (ps : List Protocol). ps ++ wire.protocol ∷ []) so_far
    ∙ (ap (λ (p : Protocol). map of_end (take place endpoints) ++ p ∷ []) own
    ∙ sym (map_more of_end endpoints place d within))))
