use Rattle.fx_supers.proofs.RingFreed.{ring-freed, start-now}
use Rattle.fx_supers.proofs.RingInMemory.{appended, appended-ring, padding-appends, padding-ring, next-queued, next-place, next-bytes, written-ring}
use Rattle.fx_supers.proofs.log_in_memory.Goals as goal

pub returns-clause-appended : goal.returns-clause-appended
returns-clause-appended c = λ l ring new region pool bytes h of raised is k a. (
  appended l h ring region of new pool bytes is k.start k.size k.epoch k.queued a raised,
  appended-ring l h ring region of new pool bytes is k.start k.size k.epoch k.queued a,
)

pub returns-clause-padded : goal.returns-clause-padded
returns-clause-padded c = λ l ring new region pool h of raised is e holds. (
  padding-appends l h ring region of new pool is e holds raised,
  padding-ring l h ring region of new pool is e holds,
)

pub returns-clause-written : goal.returns-clause-written
returns-clause-written c = λ l ring new region pool h of e holds. written-ring l h ring region of new pool e holds

pub returns-clause-freed : goal.returns-clause-freed
returns-clause-freed c = λ l ring region pool cut h of made queue. ring-freed l h ring region of cut made pool queue

pub returns-clause-start : goal.returns-clause-start
returns-clause-start c = λ l ring region h of. start-now l h ring region of

pub returns-clause-next : goal.returns-clause-next
returns-clause-next c = λ l ring region before sequence h of next. record {
  block = (next-queued l h ring region of before sequence next).0;
  here = (next-queued l h ring region of before sequence next).1;
  place = next-place l h ring region of before sequence next;
  bytes = next-bytes l h ring region of before sequence next;
}
