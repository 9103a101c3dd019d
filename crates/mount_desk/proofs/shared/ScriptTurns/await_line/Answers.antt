use Rattle.mount_desk.proofs.shared.ScriptTurns.await_line.Goals as goal

pub returns-then-has_news : goal.returns-then-has_news
returns-then-has_news g c = (_, _, c.take_line.ensures)
