use Rattle.std.proofs.Common.{◌≡◌, ◌+◌, ◌≤◌, vec_items, vec_len, vec_capacity, deque_items, deque_len}
use Rattle.monitor.proofs.Sessions.{Sofar}
use Rattle.monitor.proofs.session.answer_all.Given as goal

-- the calls that are not left are answered, and the room that was lent has room for the other replies
abbrev pub invariant-loop-call : goal.invariant-loop-call
invariant-loop-call g l =
    Sofar (deque_items l.initial.calls) (deque_items l.calls) (vec_items l.replies) l.monitor
    × (vec_len l.replies + deque_len l.calls ≤ vec_capacity l.replies)
    × (vec_capacity l.replies ≡ vec_capacity l.fn.replies)

abbrev pub decreases-loop-call : goal.decreases-loop-call
decreases-loop-call g l = deque_len l.calls
