use Rattle.std.proofs.Common.{◌≡◌, ◌<◌, ◌≤◌, ◌∷◌, [], List, arith, get_or, length, map, sym, ap, ◌∙◌}
use Rattle.live_observer.specs.Answering.{ToldOf, as_told, put_told, put_all, publish_of, publish_at}
use Rattle.live_observer.proofs.InOrder.{in_order}
use Rattle.live_observer.proofs.told.in_order.Goals as goal

alone : (told : List ToldOf) (one : ToldOf) → 1 ≤ length told → length told < 2 → one ≡ get_or told 0 one → told ≡ one ∷ []
alone [] one some few is = absurd (omega (arith, some))
alone (t ∷ []) one some few is = ap (λ x. x ∷ []) (sym is)
alone (t ∷ u ∷ told) one some few is = absurd (omega (arith, few))

pub returns-then-is_by_id : goal.returns-then-is_by_id
returns-then-is_by_id c =
    let one = c.one-item.result in
    let shown = c.as_slice-shown.result.now in
    ap (λ all. map publish_of (put_all [] all)) (alone c.args.told.now one c.in-len1.len_at_least c.in-len1.len_below c.one-item.is)
    ∙ ap (λ told. map publish_of (put_told one.name [] told)) (sym (ap as_told c.as_slice-shown.ensures ∙ c.shown.ensures))
    ∙ in_order one.name shown (c.is_by_id.ensures c.if-is_by_id.true)
    ∙ ap (λ (t : ToldOf). map (publish_at t.name) shown) (sym c.one.view_is)
