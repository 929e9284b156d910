-- The lines of posts.
use Rattle.std.proofs.Common.{◌≡◌, ◌≢◌, ℕ, ◌<◌, List, length, map, set, get_or, Some, refl, sym, ap, subst, ◌∙◌, arith}
use Rattle.std.specs.Prelude.{option_map, slice_get}
use Rattle.std.proofs.lemmas.List.{get_or-set_same, length-map, length-set}
use Rattle.std.proofs.lemmas.Option.{slice_get-get_or, slice_get-map, slice_get_read, slice_get_within, same_Some}
use Rattle.std.specs.declared.net.socket_addr.SocketAddr.{SocketAddr}
use Rattle.std.proofs.Math.ListN.{get_or-map}
use Rattle.njh_table.specs.declared.address_range.AddressRange.{AddressRange}
use Rattle.njh_table.specs.declared.LineId.{LineId}
use Rattle.njh_lines.specs.LineStates.{with_state}
use Rattle.njh_sites.specs.Opened.{site_kept}
use Rattle.njh_lines.specs.Watching.{served_line, ServedLine}
use Rattle.njh_request.specs.declared.request.LineState.{LineState}
use Rattle.njh_lines.specs.declared.post.Post.{Post}
use Rattle.njh_lines.proofs.StateLaws.{set_other}
use Rattle.njh_sites.specs.declared.site.Site.{Site}
use Rattle.std.proofs.Math.Seq.{map-set_same}
use Rattle.std.specs.Prelude.{[], ◌∷◌, ◌++◌}
use Rattle.std.proofs.lemmas.List.{map-append}
use Rattle.njh_request.specs.declared.request.LineState.TheVariants.{Started}
use Rattle.njh_sites.specs.Opened.{site_opened}
use Rattle.njh_sites.specs.declared.door.Door.{Door}

-- a post of which the line, the site, from where it takes connections, and the state stay
pub served_stays : {L C : Type 0} (address_of : L → SocketAddr) (was new : Post L C) → new.line ≡ was.line
    → site_kept address_of new.site ≡ site_kept address_of was.site → new.entrance.from ≡ was.entrance.from
    → new.state ≡ was.state → served_line address_of new ≡ served_line address_of was
served_stays address_of was new line site from state = λ i.
    record { id = line i; site = site i; from = from i; state = state i }

-- a post of which the line, the site and from where it takes connections stay, and which is served so now
pub served_so : {L C : Type 0} (address_of : L → SocketAddr) (was new : Post L C) (state : LineState)
    → new.line ≡ was.line → site_kept address_of new.site ≡ site_kept address_of was.site
    → new.entrance.from ≡ was.entrance.from → new.state ≡ state
    → served_line address_of new ≡ with_state state (served_line address_of was)
served_so address_of was new state line site from is = λ i.
    record { id = line i; site = site i; from = from i; state = is i }

-- one of them changed, and keeps its line
pub lines_stay : {P L : Type 0} (line_of : P → L) (posts : List P) (lines : List L) (place : ℕ) (was new : P)
    → map line_of posts ≡ lines → was ≡ get_or posts place was → line_of new ≡ line_of was
    → map line_of (set posts place new) ≡ lines
lines_stay line_of posts lines place was new seen read same =
    map-set_same line_of posts place new was (same ∙ ap line_of read) ∙ seen

-- the line at a place is that of the post there
pub line_there : {P L : Type 0} (line_of : P → L) (posts : List P) (lines : List L) (place : ℕ) (post : P) (line : L)
    → map line_of posts ≡ lines → place < length posts → post ≡ get_or posts place post
    → slice_get lines place ≡ Some line
    → line ≡ line_of post
line_there {P} {L} line_of posts lines place post line seen there read found =
    let within : place < length (map line_of posts) = omega (arith, there, length-map posts line_of) in
    let At : List L → Type 0 = λ ls. slice_get ls place ≡ Some line in
    let mapped : slice_get (map line_of posts) place ≡ Some line = subst At (sym seen) found in
    same_Some line (get_or (map line_of posts) place (line_of post))
    (sym mapped ∙ slice_get-get_or (map line_of posts) place (line_of post) within)
    ∙ (get_or-map line_of posts place post ∙ sym (ap line_of read))

-- and it is there
pub seen_of : {P L : Type 0} (line_of : P → L) (posts : List P) (lines : List L) (place : ℕ) (post : P)
    → map line_of posts ≡ lines → place < length posts → post ≡ get_or posts place post
    → slice_get lines place ≡ Some (line_of post)
seen_of {P} {L} line_of posts lines place post seen there read =
    let At : List L → Type 0 = λ ls. slice_get ls place ≡ Some (line_of post) in
    subst At seen (slice_get-map line_of posts place
    ∙ ap (option_map line_of) (slice_get_read posts (length posts) place post refl there read))

-- where there is a line there is a post
pub post_there : {P L : Type 0} (line_of : P → L) (posts : List P) (lines : List L) (place : ℕ) (line : L)
    → map line_of posts ≡ lines → slice_get lines place ≡ Some line → place < length posts
post_there line_of posts lines place line seen found =
    let there : place < length lines = slice_get_within lines place line found in
    let many : length lines ≡ length posts = ap length (sym seen) ∙ length-map posts line_of in
    omega (arith, there, many)

-- what is seen at a place is that of the post that is put there
pub seen_there : {P L : Type 0} (line_of : P → L) (posts : List P) (place : ℕ) (new : P) (line : L)
    → place < length posts → slice_get (map line_of (set posts place new)) place ≡ Some line → line ≡ line_of new
seen_there line_of posts place new line there found =
    line_there line_of (set posts place new) (map line_of (set posts place new)) place new line refl
    (omega (arith, there, length-set posts place new)) (sym (get_or-set_same posts place new new there)) found

-- of the others nothing changed
pub others_noted : {P L : Type 0} (line_of : P → L) (posts : List P) (lines : List L) (place other : ℕ) (new : P)
    → map line_of posts ≡ lines → other ≢ place
    → slice_get (map line_of (set posts place new)) other ≡ slice_get lines other
others_noted {P} {L} line_of posts lines place other new seen apart =
    slice_get-map line_of (set posts place new) other
    ∙ (ap (option_map line_of) (set_other posts place other new apart)
    ∙ (sym (slice_get-map line_of posts other) ∙ ap (λ (ls : List L). slice_get ls other) seen))

-- a post more
pub post_added : {L C : Type 0} (address_of : L → SocketAddr) (posts new_posts : List (Post L C)) (post : Post L C)
    (lines : List ServedLine) (id : LineId) (site : Site (Door L) SocketAddr) (from : List AddressRange)
    → new_posts ≡ posts ++ post ∷ [] → map (served_line address_of) posts ≡ lines → post.line ≡ id
    → site_kept address_of post.site ≡ site_opened address_of site → post.entrance.from ≡ from → post.state ≡ Started
    → map (served_line address_of) new_posts
    ≡ lines ++ record { id = id; site = site_opened address_of site; from = from; state = Started } ∷ []
post_added address_of posts new_posts post lines id site from added seen line own its started =
    let same : served_line address_of post ≡ record {
      id = id;
      site = site_opened address_of site;
      from = from;
      state = Started;
    } = λ i. record { id = line i; site = own i; from = its i; state = started i } in
    ap (map (served_line address_of)) added
    ∙ (map-append (served_line address_of) posts (post ∷ [])
    ∙ (ap (λ (xs : List ServedLine). xs ++ served_line address_of post ∷ []) seen
    ∙ ap (λ (x : ServedLine). lines ++ x ∷ []) same))
