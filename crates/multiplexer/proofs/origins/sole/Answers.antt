use Rattle.std.proofs.Common.{◌≡◌, ℕ, ◌+◌, ◌<◌, List, map, take, length, slice_get, Option, None, Some, IfSome, option_map, refl, ap, sym, subst, ◌∙◌}
use Rattle.std.specs.Arc.{arc_value}
use Rattle.std.proofs.lemmas.Option.{slice_get_read, slice_get-map}
use Rattle.map_model.specs.Maps.{at, IsSorted}
use Rattle.ejson_value.specs.declared.change.Publish.{Publish}
use Rattle.ejson_value.specs.Key.{key_cmp}
use Rattle.ejson_value.specs.Changes.{news_of}
use Rattle.multiplexer.specs.declared.entry.Told.{Told}
use Rattle.multiplexer.specs.declared.origins.Origin.{Origin}
use Rattle.multiplexer.specs.Inside.{seen_entry}
use Rattle.multiplexer.specs.Joining.{key_at}
use Rattle.multiplexer.specs.Telling.{AnEntry, news_in}
use Rattle.multiplexer.specs.Origins.{IsSoleIn}
use Rattle.multiplexer.proofs.Sources.{all_at}
use Rattle.multiplexer.proofs.Soles.{said_none, first_sole, sole_stays}
use Rattle.multiplexer.proofs.origins.sole.Goals.{in-Some+else-is_some, in_default}
use Rattle.multiplexer.proofs.origins.sole.Goals as goal

pub loop-entry-preserved : goal.loop-entry-preserved
loop-entry-preserved c =
    let all = map seen_entry c.args.all.now in
    let many = length c.args.all.now in
    let entry = c.loop-entry.entry in
    let key = c.args.key.now in
    let x = c.index-all-entry.result in
    let one = seen_entry x in
    let get : slice_get all entry ≡ Some one = slice_get-map seen_entry c.args.all.now entry ∙ ap (option_map seen_entry) (slice_get_read c.args.all.now many entry x refl c.loop-entry-test.true c.index-all-entry.is) in
    let named : c.deref.result.now ≡ arc_value x.news = c.deref.ensures ∙ ap (λ (t : Told). arc_value t.news) (sym c.index-all-entry.is) in
    let P : AnEntry → Type 0 = λ (e : AnEntry). IsSorted key_cmp (news_in e) in
    elim c.match-place_in.branch [
      | in-Some+else-is_some w ↦ record {
        within = subst (λ (o : Option Origin). IfSome o (λ (x : Origin). x.entry < many)) (sym w.sole-is) c.loop-entry-test.true;
        sole = λ by_key.
            let sorted = subst (λ (ps : List Publish). IsSorted key_cmp (news_of ps)) (sym named) (all_at P all entry one by_key get) in
            let there = subst (λ (o : Option ℕ). IfSome o (λ place. key_at (news_of c.deref.result.now) place ≡ Some key)) w.in-Some.is (c.place_in.ensures.there sorted) in
            let said = said_none (take entry all) key c.loop-entry.sole (c.loop-entry.invariant.sole by_key) (sym w.is_some.ensures ∙ w.if-is_some.false) in
            subst (λ (o : Option Origin). IsSoleIn (take (entry + 1) all) key o) (sym w.sole-is)
            (first_sole all entry one get key w.in-Some.place said (subst (λ (ps : List Publish). key_at (news_of ps) w.in-Some.place ≡ Some key) named there));
      }
      | in_default w ↦ record {
        within = subst (λ (o : Option Origin). IfSome o (λ (x : Origin). x.entry < many)) (sym w.sole-is) c.loop-entry.invariant.within;
        sole = λ by_key.
            let sorted = subst (λ (ps : List Publish). IsSorted key_cmp (news_of ps)) (sym named) (all_at P all entry one by_key get) in
            let none = subst (λ (ps : List Publish). at key_cmp (news_of ps) key ≡ None) named (c.place_in.ensures.none sorted w.in_default.is) in
            subst (λ (o : Option Origin). IsSoleIn (take (entry + 1) all) key o) (sym w.sole-is) (sole_stays all entry one get key c.loop-entry.sole (c.loop-entry.invariant.sole by_key) none);
      }
    ]
