-- The rings of a list have the numbers of their places, by the ways of the list.
use Rattle.std.specs.Prelude.{◌≡◌, ℕ, ◌+◌, ◌-◌, List, [], ◌∷◌, ◌++◌, length, map, refl}
use Rattle.std.proofs.Common.{ap, sym, ◌∙◌, arith, append_assoc, length-append}
use Rattle.duct.specs.Rings.{Way}
use Rattle.named_rings.specs.Ways.{way_at}
use Rattle.named_rings.specs.declared.pairs.Pair.{Pair}
use Rattle.named_rings.specs.Rings.{client_ways, session_ways, AreRings}

found : (f : Pair → Way) (before : List Pair) (p : Pair) (ps : List Pair) → way_at (map f (before ++ p ∷ ps)) (length before) ≡ f p
found f [] p ps = refl
found f (q ∷ before) p ps = found f before p ps

found_at : (f : Pair → Way) (before : List Pair) (p : Pair) (ps : List Pair) (n : ℕ) → n ≡ length before → way_at (map f (before ++ p ∷ ps)) ((n + 1) - 1) ≡ f p
found_at f before p ps n is = let e : (n + 1) - 1 ≡ length before = omega arith in ap (way_at (map f (before ++ p ∷ ps))) e ∙ found f before p ps

rings : (all before ps : List Pair) (n : ℕ) → all ≡ before ++ ps → n ≡ length before → AreRings (client_ways all) (session_ways all) n ps
rings all before [] n is count = tt
rings all before (p ∷ ps) n is count =
    let more : all ≡ (before ++ p ∷ []) ++ ps = is ∙ sym (append_assoc before (p ∷ []) ps) in
    let one : n + 1 ≡ length (before ++ p ∷ []) = omega (arith, length-append before (p ∷ [])) in (
      rw is (sym (found_at (λ q. q.client.out) before p ps n count)),
      rw is (sym (found_at (λ q. q.client.inn) before p ps n count)),
      rings all (before ++ p ∷ []) ps (n + 1) more one,
    )

pub are_rings : (ps : List Pair) → AreRings (client_ways ps) (session_ways ps) 0 ps
are_rings ps = rings ps [] ps 0 refl refl
