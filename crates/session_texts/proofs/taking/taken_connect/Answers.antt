use Rattle.session_texts.proofs.taking.taken_connect.Goals as goal

pub returns-then-connected : goal.returns-then-connected
returns-then-connected c = rw c.if-connected.true c.refused_shown.ensures
