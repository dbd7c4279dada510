use Rattle.std.proofs.Common.{◌≡◌, sym, subst}
use Rattle.std.specs.Prelude.{None, OnOk}
use Rattle.std.specs.BTreeMap.{insert_entry}
use Rattle.map_model.specs.Maps.{at, union}
use Rattle.value_model.specs.Order.{text_cmp}
use Rattle.lanes.specs.Lanes.{Named}
use Rattle.lanes.specs.UnionsLaws.{free_in_both, put_in_left, put_in_right}
use Rattle.lanes.proofs.both.BothLanes.put.Goals as goal

pub put-requires : goal.put-requires
put-requires g c =
    let others = g.B.Lanes.values in
    (free_in_both c.self.inside.one (others c.self.inside.other) c.args.name (subst (λ (x : Named g.row.X.Denot). at text_cmp x c.args.name ≡ None) (sym c.self.view_is) c.requires)).0

pub put-requires-else-fewest : goal.put-requires-else-fewest
put-requires-else-fewest g c =
    let others = g.B.Lanes.values in
    (free_in_both c.self.inside.one (others c.self.inside.other) c.args.name (subst (λ (x : Named g.row.X.Denot). at text_cmp x c.args.name ≡ None) (sym c.self.view_is) c.requires)).1

pub invariant_of-self : goal.invariant_of-self
invariant_of-self g c =
    let others = g.B.Lanes.values in
    let free = subst (λ (x : Named g.row.X.Denot). at text_cmp x c.args.name ≡ None) (sym c.self.view_is) c.requires in
    (put_in_left c.args.name c.args.value c.self.inside.one c.put.new.self (others c.self.inside.other) c.put.result free c.put.ensures.ok c.put.ensures.err c.self.invariant).lanes

pub invariant_of-self-else-fewest : goal.invariant_of-self-else-fewest
invariant_of-self-else-fewest g c =
    let others = g.B.Lanes.values in
    let free = subst (λ (x : Named g.row.X.Denot). at text_cmp x c.args.name ≡ None) (sym c.self.view_is) c.requires in
    (put_in_right c.args.name c.args.value c.self.inside.one (others c.self.inside.other) (others c.put-else-fewest.new.self) c.put-else-fewest.result free c.put-else-fewest.ensures.ok c.put-else-fewest.ensures.err c.self.invariant).lanes

pub returns-then-fewest-clause-ok : goal.returns-then-fewest-clause-ok
returns-then-fewest-clause-ok g c =
    let others = g.B.Lanes.values in
    let free = subst (λ (x : Named g.row.X.Denot). at text_cmp x c.args.name ≡ None) (sym c.self.view_is) c.requires in
    let p = put_in_left c.args.name c.args.value c.self.inside.one c.put.new.self (others c.self.inside.other) c.put.result free c.put.ensures.ok c.put.ensures.err c.self.invariant in
    subst (λ (x : Named g.row.X.Denot). OnOk c.put.result (union text_cmp c.put.new.self (others c.self.inside.other) ≡ insert_entry text_cmp x c.args.name c.args.value)) c.self.view_is p.put

pub returns-else-fewest-clause-ok : goal.returns-else-fewest-clause-ok
returns-else-fewest-clause-ok g c =
    let others = g.B.Lanes.values in
    let free = subst (λ (x : Named g.row.X.Denot). at text_cmp x c.args.name ≡ None) (sym c.self.view_is) c.requires in
    let p = put_in_right c.args.name c.args.value c.self.inside.one (others c.self.inside.other) (others c.put-else-fewest.new.self) c.put-else-fewest.result free c.put-else-fewest.ensures.ok c.put-else-fewest.ensures.err c.self.invariant in
    subst (λ (x : Named g.row.X.Denot). OnOk c.put-else-fewest.result (union text_cmp c.self.inside.one (others c.put-else-fewest.new.self) ≡ insert_entry text_cmp x c.args.name c.args.value)) c.self.view_is p.put
