-- All laws of events, as one record: everything that is sent has a record and is read again, so every event keeps the facts.
use Rattle.wire.proofs.lemmas.Again.{spell_again}
use Rattle.kept_promise.proofs.Fits.{FitLaws}
use Rattle.kept_promise.proofs.Spelled.{calls_fit, calls_expected, hash_answers_fit, lease_answers_fit, read_answers_fit, plain_answers_fit}
use Rattle.kept_promise.proofs.WalkReplies.{name_answers_fit}
use Rattle.kept_promise.proofs.ChangesSpelled.{making_answers_fit, going_answers_fit, settled_answers_fit}
use Rattle.kept_promise.proofs.RunsCarried.{KeptLaws}
use Rattle.kept_promise.proofs.Joins.{kept_joins, kept_raw_joins}
use Rattle.kept_promise.proofs.RawServes.{kept_raws}
use Rattle.kept_promise.proofs.Hangs.{kept_hangs}
use Rattle.kept_promise.proofs.Cuts.{kept_cuts}
use Rattle.kept_promise.proofs.Settles.{kept_settles}
use Rattle.kept_promise.proofs.Commands.{kept_does}
use Rattle.kept_promise.proofs.Served.{kept_serves}
use Rattle.kept_promise.proofs.Hears.{kept_hears}
use Rattle.kept_promise.proofs.ReplyKept.{kept_replies}
use Rattle.kept_promise.proofs.RecallsHeard.{kept_recalls}

pub fit_laws : FitLaws
fit_laws = record { calls = calls_fit; expected = calls_expected; hashes = hash_answers_fit; leases = lease_answers_fit; reads = read_answers_fit; plain = plain_answers_fit; names = name_answers_fit; makings = making_answers_fit; goings = going_answers_fit; settled = settled_answers_fit; again = spell_again }

pub kept_laws : FitLaws → KeptLaws
kept_laws laws = record { joins = kept_joins; hangs = kept_hangs; cuts = kept_cuts; settles = kept_settles laws; does = kept_does; serves = kept_serves laws; hears = kept_hears laws; replies = kept_replies laws; recalls = kept_recalls laws; raw_joins = kept_raw_joins; raws = kept_raws }
