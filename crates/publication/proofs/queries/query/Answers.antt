use Rattle.std.proofs.Common.{[], ap, ◌∙◌}
use Rattle.publication.specs.Putting.{put_all, listed_behind}
use Rattle.publication.proofs.QueryLaws.{IsQuery-put_all}
use Rattle.publication.proofs.queries.query.Goals as goal

pub returns : goal.returns
returns c =
    let cursors = c.args.cursors.now in
    let rows = c.args.contents.now in
    IsQuery-put_all cursors rows c.in_ok-answer.answer c.known.ensures.by_key
    (c.in_ok-answer.ensures ∙ ap (λ found. listed_behind [] found) (c.in_ok-put_all.ensures ∙ ap (λ found. put_all found cursors rows) c.new-found.ensures.empty))
