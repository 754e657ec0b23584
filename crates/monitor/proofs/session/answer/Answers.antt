use Rattle.monitor.proofs.session.answer.Goals as goal

pub returns-in-Offer : goal.returns-in-Offer
returns-in-Offer g c rec stands = let judged = c.offer.ensures.answer rec stands in rw c.in-Offer.is (judged.answer, judged.stands)

pub returns-in-Commit : goal.returns-in-Commit
returns-in-Commit g c rec stands = let judged = c.commit.ensures.answer rec stands in rw c.in-Commit.is (judged.answer, judged.stands)
