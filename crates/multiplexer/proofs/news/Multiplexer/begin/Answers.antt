use Rattle.std.proofs.Common.{◌≡◌, ◌-◌, List, [], ◌∷◌, ◌++◌, Option, Some, length, slice_get, ap, ap₂, sym, subst, ◌∙◌, arith, length-append}
use Rattle.std.specs.List.{AllByRecursion}
use Rattle.store_machine.specs.State.{programs}
use Rattle.multiplexer.specs.Looks.{known_until, known_by}
use Rattle.multiplexer.specs.Others.{OthersStay}
use Rattle.multiplexer.specs.Sources.{IsOf, IsPlaceOf}
use Rattle.multiplexer.specs.Telling.{ASource, ANews, IsTold, AreTold}
use Rattle.multiplexer.proofs.Finds.{new_knows}
use Rattle.multiplexer.proofs.Others.{others_more}
use Rattle.multiplexer.proofs.Sources.{all_more, last_of, last_there}
use Rattle.multiplexer.proofs.news.Multiplexer.begin.Goals as goal

pub returns-in_err-push-clause-keeps : goal.returns-in_err-push-clause-keeps
returns-in_err-push-clause-keeps c = λ cursors_at m within told.
    let mid = subst (AreTold cursors_at m) (sym c.self-2.view_is) (c.make_room.ensures.keeps cursors_at m told) in
    record {
      sources = subst (λ (sources : List ASource). AllByRecursion (IsTold cursors_at (programs m.app) m.history) sources) (sym c.in_err-push.ensures.items) mid.sources;
      batch = mid.batch;
    }

pub returns-clause-place : goal.returns-clause-place
returns-clause-place c =
    let name = c.args.name.now in
    let params = c.args.params.now in
    let source = c.in_ok-source.source in
    let old = c.self-2.inside.sources.items in
    let items = c.in_ok-push.ensures.items in
    let of : IsOf name params source = record { name_is = ap (λ (s : ASource). s.name) c.in_ok-source.ensures; params_are = ap (λ (s : ASource). s.params) c.in_ok-source.ensures } in
    let last : c.len.result - 1 ≡ length old = omega (arith, c.len.ensures, c.push.new.self.ok.0, ap length items, length-append old (source ∷ [])) in
    subst (λ (sources : List ASource). IsPlaceOf sources name params (c.len.result - 1)) (sym items) (last_of old name params source (c.len.result - 1) last of)

pub returns-clause-known : goal.returns-clause-known
returns-clause-known c = λ until.
    let source = c.in_ok-source.source in
    let old = c.self-2.inside.sources.items in
    let items = c.in_ok-push.ensures.items in
    let last : c.len.result - 1 ≡ length old = omega (arith, c.len.ensures, c.push.new.self.ok.0, ap length items, length-append old (source ∷ [])) in
    let get : slice_get c.push.new.self.items (c.len.result - 1) ≡ Some source = ap₂ (λ (sources : List ASource) n. slice_get sources n) items last ∙ last_there old source in
    ap (λ (o : Option ASource). known_by o c.args.from until) get
    ∙ (ap (λ (s : ASource). known_until s c.args.from until) c.in_ok-source.ensures ∙ new_knows c.args.name.now c.args.params.now c.args.from until)

pub returns-clause-keeps : goal.returns-clause-keeps
returns-clause-keeps c = λ cursors_at m within told.
    let source = c.in_ok-source.source in
    let mid = subst (AreTold cursors_at m) (sym c.self-2.view_is) (c.make_room.ensures.keeps cursors_at m told) in
    let one : IsTold cursors_at (programs m.app) m.history source =
    subst (IsTold cursors_at (programs m.app) m.history) (sym c.in_ok-source.ensures) (record { within = omega (arith, within); each = tt; known = tt; last = tt }) in
    record {
      sources = subst (λ (sources : List ASource). AllByRecursion (IsTold cursors_at (programs m.app) m.history) sources) (sym c.in_ok-push.ensures.items)
          (all_more (IsTold cursors_at (programs m.app) m.history) c.self-2.inside.sources.items source mid.sources one);
      batch = mid.batch;
    }

pub returns-clause-others : goal.returns-clause-others
returns-clause-others c = λ few.
    let name = c.args.name.now in
    let params = c.args.params.now in
    let source = c.in_ok-source.source in
    let kept : c.self-2.inside.sources.items ≡ c.args.self.now.sources = ap (λ (news : ANews). news.sources) (c.self-2.view_is ∙ c.make_room.ensures.same few) in
    let of : IsOf name params source = record { name_is = ap (λ (s : ASource). s.name) c.in_ok-source.ensures; params_are = ap (λ (s : ASource). s.params) c.in_ok-source.ensures } in
    subst (λ (sources : List ASource). OthersStay name params c.args.self.now.sources sources) (sym (c.in_ok-push.ensures.items ∙ ap (λ (sources : List ASource). sources ++ source ∷ []) kept))
    (others_more name params c.args.self.now.sources source of)
