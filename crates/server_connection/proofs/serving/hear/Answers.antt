use Rattle.std.specs.Prelude.{◌≡◌, ◌⊎◌, true, None}
use Rattle.std.proofs.Common.{sym, ◌∙◌, rules, inl, inr}
use Rattle.server_connection.specs.Looks.{RestsAsItStands, IsRestful}
use Rattle.server_connection.proofs.Works.{rests}
use Rattle.server_connection.proofs.Rounds.{no_text, due_restful, polls_restful}
use Rattle.server_connection.proofs.serving.hear.Goals.{else-all-via-then-all+else-not-idle, else-all-via-else-all}
use Rattle.server_connection.proofs.serving.hear.Goals as goal

pub returns-then-failed-clause-rest : goal.returns-then-failed-clause-rest
returns-then-failed-clause-rest g c l =
    let h = c.args.session.now in
    let d = c.args.desk.now in
    due_restful h d (
      no_text d.held (sym c.is_some.ensures ∙ c.if-is_some.false),
      elim c.else-all.branch as (λ _. (d.refused ≡ true) ⊎ ((d.back ≡ None) × RestsAsItStands h)) [
        | else-all-via-then-all+else-not-idle w ↦ (let sent = c.requires.sent w.if-all.true in inr (sent.0, rests g.N.StoreName.app c.args.place h c.requires.within (c.in-Ok.ensures (search rules)) sent.1))
        | else-all-via-else-all w ↦ inl (c.requires.waits w.if-all.false)
      ],
    )

pub poll_once-requires-after_bounds : goal.poll_once-requires-after_bounds
poll_once-requires-after_bounds g c κs within =
    let h = c.args.session.now in
    let d = c.args.desk.now in (
      no_text d.held (sym c.is_some.ensures ∙ c.if-is_some.false),
      elim c.else-all.branch as (λ _. (d.refused ≡ true) ⊎ ((d.back ≡ None) × RestsAsItStands h)) [
        | else-all-via-then-all+else-not-idle w ↦ (let sent = c.requires.sent w.if-all.true in inr (sent.0, rests g.N.StoreName.app c.args.place h c.requires.within (c.in-Ok.ensures (search rules)) sent.1))
        | else-all-via-else-all w ↦ inl (c.requires.waits w.if-all.false)
      ],
    )

pub returns-clause-rest : goal.returns-clause-rest
returns-clause-rest g c =
    let h' = c.poll_once.new.session in
    let d' = c.poll_once.new.desk in
    polls_restful c.poll_once.result (g.L.Link.faults c.args.link.now) (g.L.Link.faults c.poll_once.new.link) h'.session (IsRestful h' d') (λ is. due_restful h' d' (c.poll_once.ensures.rest is)) c.poll_once.ensures.cause
