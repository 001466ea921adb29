-- The library compares the first letters one by one, as the definition does.
use Rattle.rewriting.proofs.BeginsLaws.{begins_is}
use Rattle.rewriting.proofs.standing.starts_at.Goals as goal

pub returns-then-left-le-GROUP : goal.returns-then-left-le-GROUP
returns-then-left-le-GROUP c = search begins_is
