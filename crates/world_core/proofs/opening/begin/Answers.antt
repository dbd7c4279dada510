use Rattle.std.proofs.lemmas.Result.{err_from_is_err_and}
use Rattle.world_core.specs.Kept.{seen}
use Rattle.world_core.proofs.Begun.{put_back, taken_back}
use Rattle.std.proofs.Common.{ap, ◌∙◌}
use Rattle.world_laws.specs.Doing.{without_name}
use Rattle.world_core.proofs.opening.begin.Goals as goal

pub returns-in_err-put-2 : goal.returns-in_err-put-2
returns-in_err-put-2 c =
    let p = err_from_is_err_and c.from_residual-in_err-put-2.result c.from_residual-in_err-put-2.ensures.1 in
    rw p.1 (put_back (seen c.args.inside.now) c.requires.world c.args.name.now c.put-2.new.self c.put.new.self c.in_err-put-2.ensures.err c.in_ok-put.ensures.ok)

pub returns-in-Err : goal.returns-in-Err
returns-in-Err c =
    taken_back (seen c.args.inside.now) c.requires.world c.args.name.now c.requires.none c.add.new.conns c.remove.new.self c.put.new.self c.in-Err.ensures.err
    (c.remove.ensures ∙ ap (λ names. without_name names c.args.name.now) c.in_ok-put-2.ensures.ok) c.in_ok-put.ensures.ok
