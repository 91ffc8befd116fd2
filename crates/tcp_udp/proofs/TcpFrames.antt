-- Frames with the TCP layer, by their places.
use Rattle.std.proofs.Common.{◌≡◌, ◌∙◌, List, ℕ, Option, Some, None, refl, ap, sym, subst}
use Rattle.std.specs.Prelude.{option_and_then}
use Rattle.brick_spec.specs.Layer.{Layer, ip4_layer, tcp_layer, tcp_layer_in}
use Rattle.tcp_udp.specs.PlacesIn.{ArePlaces, HasTransport, HasNoPorts, IsTcp}
use Rattle.tcp_udp.specs.declared.places.Places.{Places}
use Rattle.tcp_udp.specs.declared.places.Transport.{Transport}
use Rattle.tcp_udp.specs.declared.places.Transport.TheVariants.{Tcp, Udp}

-- the TCP layer of a frame with these places is their inner one
pub tcp_inner : (frame : List ℕ) (p : Places) (a : ArePlaces frame p) → IsTcp frame → tcp_layer frame ≡ Some a.inner
tcp_inner frame p a (t, h) = by_transport p.transport a.has
  where
    here : tcp_layer frame ≡ tcp_layer_in frame a.layer
    here = ap (option_and_then (tcp_layer_in frame)) a.is

    by_transport : (transport : Transport) → HasTransport frame a.layer transport a.inner → tcp_layer frame ≡ Some a.inner
    by_transport Tcp has = here ∙ has
    by_transport Udp (none, has) = let both : ◌≡◌ {A = Option Layer} None (Some t) = sym none ∙ (sym here ∙ h) in cc

-- a frame with the TCP layer has places
pub tcp_has_places : (frame : List ℕ) → HasNoPorts frame → IsTcp frame → ⊥
tcp_has_places frame none (t, h) = by_layer (ip4_layer frame) refl h
  where
    by_layer : (o : Option Layer) → ip4_layer frame ≡ o → option_and_then (tcp_layer_in frame) o ≡ Some t → ⊥
    by_layer None is e = cc
    by_layer (Some l) is e = let both : ◌≡◌ {A = Option Layer} None (Some t) = sym (none l is).0 ∙ e in cc

-- a frame whose places are those of TCP has the TCP layer
pub places_tcp : (frame : List ℕ) (p : Places) → ArePlaces frame p → p.transport ≡ Tcp → IsTcp frame
places_tcp frame p a tcp = (a.inner, ap (option_and_then (tcp_layer_in frame)) a.is ∙ subst (λ x. HasTransport frame a.layer x a.inner) tcp a.has)

-- and one whose places are those of UDP has not
pub places_udp : (frame : List ℕ) (p : Places) → ArePlaces frame p → p.transport ≡ Udp → IsTcp frame → ⊥
places_udp frame p a udp (t, h) =
    let has : HasTransport frame a.layer Udp a.inner = subst (λ x. HasTransport frame a.layer x a.inner) udp a.has in
    let both : ◌≡◌ {A = Option Layer} None (Some t) = sym has.0 ∙ (sym (ap (option_and_then (tcp_layer_in frame)) a.is) ∙ h) in cc
