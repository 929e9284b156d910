-- The address that a text writes is the one that the grammar gives.
use Rattle.std.proofs.Common.{◌≡◌, ◌↔◌, ℕ, cond, List, [], ◌∷◌, length, Option, Some, None, Result, Ok, Err, option_map}
use Rattle.std.proofs.Common.{refl, sym, ap, subst, ◌∙◌, append-nil, ne_eqb, arith, lit≤}
use Rattle.std.specs.Result.{result_ok}
use Rattle.std.proofs.lemmas.Option.{none-some, same_Some}
use Rattle.std.specs.declared.net.socket_addr.SocketAddrV4.{SocketAddrV4}
use Rattle.std.specs.declared.net.socket_addr.SocketAddrV6.{SocketAddrV6}
use Rattle.std.specs.declared.net.socket_addr.SocketAddr.{SocketAddr}
use Rattle.std.specs.declared.net.socket_addr.SocketAddr.TheVariants.{V4, V6}
use Rattle.std.specs.declared.net.ipv4_addr.Ipv4Addr.{Ipv4Addr}
use Rattle.std.specs.declared.net.ipv6_addr.Ipv6Addr.{Ipv6Addr}
use Rattle.std.specs.declared.net.ip_addr.IpAddr.{IpAddr}
use Rattle.std.specs.declared.net.ip_addr.IpAddr.TheVariants as ip
use Rattle.std.specs.Net.Addr.{ipv4_octets, ipv6_segments}
use Rattle.std.specs.Net.Grammar.{Parses, IsIpv4Text, IsIpv6Text, IsIpText, IsSocketV4Text, IsSocketV6Text}
use Rattle.std.specs.Net.Grammar.{IsSocketText}
use Rattle.std.specs.Net.Reader.{Read, whole_value, read_ipv4, read_ipv6, read_socket_v4, read_socket_v6, v4_parts}
use Rattle.std.specs.Net.Reader.{v6_parts}
use Rattle.std.proofs.NetLemmas.Ipv4.{read_ipv4_complete, read_ipv4_sound}
use Rattle.std.proofs.NetLemmas.Ipv6.{read_ipv6_complete, read_ipv6_sound, EndsGroups-nil, IsDotted-not_colon_hex}
use Rattle.std.proofs.NetLemmas.Sockets.{read_socket_v4_complete, read_socket_v4_sound, IsSocketV4Text-not_v6}
use Rattle.std.proofs.NetLemmas.Sockets.{read_socket_v6_complete, read_socket_v6_sound}
use Rattle.njh_table.specs.Addresses.{address_v4, address_v6, v4_or, address_of, ip_v4, ip_v6, ip_of}

-- what a reader read whole
whole_is : {A : Type 0} (read : Read A) (x : A) → whole_value read ≡ Some x → read ≡ Some (x, [])
whole_is None x e = absurd (none-some x e)
whole_is (Some (y, [])) x e = ap (λ z. Some (z, [])) (same_Some y x e)
whole_is (Some (y, b ∷ rest)) x e =
    absurd (none-some x (sym (ap (λ t. cond t (Some y) None) (ne_eqb (length (b ∷ rest)) 0 (omega arith))) ∙ e))

v4_spelled : (text : List ℕ) (p : List ℕ × ℕ) → whole_value (read_socket_v4 text) ≡ Some p
    → IsSocketText text (address_v4 p)
v4_spelled text p e =
    let (front, split, spells) = read_socket_v4_sound text []
    (record { ip = record { octets = p.0 }; port = p.1 }) (whole_is _ p e) in
    subst (λ t. IsSocketText t (address_v4 p)) (sym (split ∙ append-nil front)) spells

v6_spelled : (text : List ℕ) (p : List ℕ × ℕ × ℕ × ℕ) → whole_value (read_socket_v6 text) ≡ Some p
    → IsSocketText text (address_v6 p)
v6_spelled text p e =
    let (front, split, spells) = read_socket_v6_sound text []
    (record { ip = record { segments = p.0 }; port = p.1; flowinfo = p.2; scope_id = p.3 }) (whole_is _ p e) in
    subst (λ t. IsSocketText t (address_v6 p)) (sym (split ∙ append-nil front)) spells

v4_whole : (text : List ℕ) (a : SocketAddrV4) → IsSocketV4Text text a
    → whole_value (read_socket_v4 text) ≡ Some (v4_parts a)
v4_whole text a h = ap whole_value (read_socket_v4_complete text a h)

v6_whole : (text : List ℕ) (a : SocketAddrV6) → IsSocketV6Text text a
    → whole_value (read_socket_v6 text) ≡ Some (v6_parts a)
v6_whole text a h = ap whole_value (read_socket_v6_complete text a h)

module _ (text : List ℕ) where
  -- either reader's value
  given : (four : Option (List ℕ × ℕ)) (six : Option (List ℕ × ℕ × ℕ × ℕ)) (a : SocketAddr)
      → whole_value (read_socket_v4 text) ≡ four → whole_value (read_socket_v6 text) ≡ six
      → v4_or (option_map address_v4 four) (option_map address_v6 six) ≡ Some a → IsSocketText text a
  given (Some p) six a is_four is_six e = subst (IsSocketText text) (same_Some _ a e) (v4_spelled text p is_four)
  given None (Some p) a is_four is_six e = subst (IsSocketText text) (same_Some _ a e) (v6_spelled text p is_six)
  given None None a is_four is_six e = absurd (none-some a e)

  only : (a : SocketAddr) → address_of text ≡ Some a → IsSocketText text a
  unfolding address_of
  only a e = given _ _ a refl refl e

  no_four : (a : SocketAddrV6) → IsSocketV6Text text a → (four : Option (List ℕ × ℕ))
      → whole_value (read_socket_v4 text) ≡ four → four ≡ None
  no_four a h None e = refl
  no_four a h (Some p) e = absurd (IsSocketV4Text-not_v6 text _ a (v4_spelled text p e) h)

  abbrev with_four : Option (List ℕ × ℕ) → Option SocketAddr
  with_four four = v4_or (option_map address_v4 four) (option_map address_v6 (whole_value (read_socket_v6 text)))

  found : (a : SocketAddr) → IsSocketText text a → address_of text ≡ Some a
  unfolding address_of
  found (V4 a) h = ap with_four (v4_whole text a h)
  found (V6 a) h =
      ap with_four (no_four a h _ refl) ∙ ap (λ six. option_map address_v6 six) (v6_whole text a h)

pub address_of-spelled : (text : List ℕ) (a : SocketAddr) → IsSocketText text a ↔ (address_of text ≡ Some a)
address_of-spelled text a = (found text a, only text a)

-- what the standard library's parser gives
pub parsed : {E : Type 0} (text : List ℕ) (r : Result SocketAddr E) → Parses IsSocketText text r
    → result_ok r ≡ address_of text
parsed text (Ok a) spelled = sym (found text a spelled)
parsed {E} text (Err e) none = by (address_of text) refl
  where
    by : (o : Option SocketAddr) → address_of text ≡ o → None ≡ o
    by None is = refl
    by (Some a) is = absurd (none a (only text a is))

-- ---- an address without a port

ip_v4_spelled : (text octets : List ℕ) → whole_value (read_ipv4 text) ≡ Some octets → IsIpText text (ip_v4 octets)
ip_v4_spelled text octets e =
    let (front, split, spells) = read_ipv4_sound text octets [] (whole_is _ octets e) in
    subst (λ t. IsIpText t (ip_v4 octets)) (sym (split ∙ append-nil front)) spells

ip_v6_spelled : (text segments : List ℕ) → whole_value (read_ipv6 text) ≡ Some segments
    → IsIpText text (ip_v6 segments)
ip_v6_spelled text segments e =
    let (front, split, spells) = read_ipv6_sound text segments [] (whole_is _ segments e) in
    subst (λ t. IsIpText t (ip_v6 segments)) (sym (split ∙ append-nil front)) spells

ip_v4_whole : (text : List ℕ) (a : Ipv4Addr) → IsIpv4Text text a → whole_value (read_ipv4 text) ≡ Some (ipv4_octets a)
ip_v4_whole text a h =
    ap whole_value (subst (λ t. read_ipv4 t ≡ Some (ipv4_octets a, [])) (append-nil text)
    (read_ipv4_complete text (ipv4_octets a) [] h (lit≤ tt)))

ip_v6_whole : (text : List ℕ) (a : Ipv6Addr) → IsIpv6Text text a
    → whole_value (read_ipv6 text) ≡ Some (ipv6_segments a)
ip_v6_whole text a h =
    ap whole_value (subst (λ t. read_ipv6 t ≡ Some (ipv6_segments a, [])) (append-nil text)
    (read_ipv6_complete text (ipv6_segments a) [] h EndsGroups-nil))

module _ (text : List ℕ) where
  ip_given : (four six : Option (List ℕ)) (a : IpAddr)
      → whole_value (read_ipv4 text) ≡ four → whole_value (read_ipv6 text) ≡ six
      → v4_or (option_map ip_v4 four) (option_map ip_v6 six) ≡ Some a → IsIpText text a
  ip_given (Some octets) six a is_four is_six e =
      subst (IsIpText text) (same_Some _ a e) (ip_v4_spelled text octets is_four)
  ip_given None (Some segments) a is_four is_six e =
      subst (IsIpText text) (same_Some _ a e) (ip_v6_spelled text segments is_six)
  ip_given None None a is_four is_six e = absurd (none-some a e)

  ip_only : (a : IpAddr) → ip_of text ≡ Some a → IsIpText text a
  unfolding ip_of
  ip_only a e = ip_given _ _ a refl refl e

  ip_no_four : (a : Ipv6Addr) → IsIpv6Text text a → (four : Option (List ℕ)) → whole_value (read_ipv4 text) ≡ four
      → four ≡ None
  ip_no_four a h None e = refl
  ip_no_four a h (Some octets) e =
      absurd (IsDotted-not_colon_hex text octets (ipv6_segments a) (ip_v4_spelled text octets e) h)

  abbrev ip_with_four : Option (List ℕ) → Option IpAddr
  ip_with_four four = v4_or (option_map ip_v4 four) (option_map ip_v6 (whole_value (read_ipv6 text)))

  ip_found : (a : IpAddr) → IsIpText text a → ip_of text ≡ Some a
  unfolding ip_of
  ip_found (ip.V4 a) h = ap ip_with_four (ip_v4_whole text a h)
  ip_found (ip.V6 a) h =
      ap ip_with_four (ip_no_four a h _ refl) ∙ ap (λ six. option_map ip_v6 six) (ip_v6_whole text a h)

pub ip_of-spelled : (text : List ℕ) (a : IpAddr) → IsIpText text a ↔ (ip_of text ≡ Some a)
ip_of-spelled text a = (ip_found text a, ip_only text a)

pub ip_parsed : {E : Type 0} (text : List ℕ) (r : Result IpAddr E) → Parses IsIpText text r → result_ok r ≡ ip_of text
ip_parsed text (Ok a) spelled = sym (ip_found text a spelled)
ip_parsed {E} text (Err e) none = by (ip_of text) refl
  where
    by : (o : Option IpAddr) → ip_of text ≡ o → None ≡ o
    by None is = refl
    by (Some a) is = absurd (none a (ip_only text a is))
