-- One name that opens, on an `unfolding` line, all that computes on given events and records. Assumes nothing.
--   acts       the tests of one event
--   judging    all of the judgement
use Rattle.order.specs.Searches.{some_below, first_from, first_true}
use Rattle.order.specs.Acts.{does, allocates, writes_place, reads_place, touches, commits, sees}
use Rattle.order.specs.Records.{holds_at, before, latest, started, ended, running, lock_holder}
use Rattle.order.specs.Order.{by_lock, by_flag, by_fork, by_join, by_fork_join, by_commits, pair, hands_over, same_thread, linked, ordered}
use Rattle.order.specs.Conflicts.{lives, life, in_life}
use Rattle.order.specs.Faults.{no_such_thread, no_such_thing, not_running, forked_before, joins_amiss, lock_held, lock_not_held, joined_holds, record_full, faults, rule}
use Rattle.order.specs.Judgement.{reads_by, latest_write, latest_read, unordered, unordered_read, witness, race, judge}

unfoldable pub acts : Unit {0}
unfolding does allocates writes_place reads_place touches commits sees reads_by
acts = tt

unfoldable pub judging : Unit {0}
unfolding acts some_below first_from first_true holds_at before latest started ended running lock_holder by_lock by_flag by_fork by_join by_fork_join by_commits pair hands_over same_thread linked ordered lives life in_life no_such_thread no_such_thing not_running forked_before joins_amiss lock_held lock_not_held joined_holds record_full faults rule latest_write latest_read unordered unordered_read witness race judge
judging = tt
