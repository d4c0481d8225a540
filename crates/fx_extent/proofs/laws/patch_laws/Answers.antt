use Rattle.fx_extent.proofs.Patched.{put_full, put_joined, put_text, put_zeros, text_in, unread, zeros_in}
use Rattle.fx_extent.proofs.laws.patch_laws.Goals as goal

pub returns-clause-written : goal.returns-clause-written
returns-clause-written c = put_text

pub returns-clause-cut : goal.returns-clause-cut
returns-clause-cut c = put_zeros

pub returns-clause-text_inside : goal.returns-clause-text_inside
returns-clause-text_inside c = text_in

pub returns-clause-zeros_inside : goal.returns-clause-zeros_inside
returns-clause-zeros_inside c = zeros_in

pub returns-clause-full : goal.returns-clause-full
returns-clause-full c = put_full

pub returns-clause-joined : goal.returns-clause-joined
returns-clause-joined c = put_joined

pub returns-clause-unread : goal.returns-clause-unread
returns-clause-unread c = unread
