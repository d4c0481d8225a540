use Rattle.fx_record.proofs.Commits.{map-numbered, length-numbered, numbered-append, commits_bytes-append, commits_bytes-push, same_length, least_length}
use Rattle.fx_record.proofs.Counted.{numbers_of}
use Rattle.fx_record.proofs.laws.numbered_commits.Goals as goal

pub returns-clause-items : goal.returns-clause-items
returns-clause-items c = map-numbered

pub returns-clause-count : goal.returns-clause-count
returns-clause-count c = length-numbered

pub returns-clause-follow : goal.returns-clause-follow
returns-clause-follow c = numbers_of

pub returns-clause-joined : goal.returns-clause-joined
returns-clause-joined c = numbered-append

pub returns-clause-bytes : goal.returns-clause-bytes
returns-clause-bytes c = commits_bytes-append

pub returns-clause-one_more : goal.returns-clause-one_more
returns-clause-one_more c = commits_bytes-push

pub returns-clause-length : goal.returns-clause-length
returns-clause-length c = same_length

pub returns-clause-least : goal.returns-clause-least
returns-clause-least c = least_length
