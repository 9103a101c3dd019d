-- The names of the crates below that these proofs cite most, passed on from one place. Declares nothing.
pub use Rattle.temp_files.specs.Pieces.{size_most, range_fault}
pub use Rattle.temp_files.specs.Temps.{Temp, key_of, temp_at, room_fault, assembled, without_temp, with_temp, piece_fault, temps_of}
pub use Rattle.std.proofs.lemmas.Bool.Decides.{nat_tests}
pub use Rattle.std.proofs.lemmas.List.{take-append-drop, take_all, length-drop}
pub use Rattle.std.proofs.lemmas.List.Elements.{Contains-append_left, Contains-append_right, Contains-push, All-nil, All-cons, All-map, Contains-push_cases, Contains-append_cases}
pub use Rattle.std.proofs.lemmas.Map.Lookups.{exact_unsigned}
pub use Rattle.std.specs.BTreeMap.{insert_entry, is_at}
pub use Rattle.std.specs.List.{list_any}
pub use Rattle.std.specs.Map.{lookup, remove_entry}
pub use Rattle.std.specs.Option.{option_map_or}
pub use Rattle.std.specs.Ordering.{nat_cmp, match_ordering, is_eq}
pub use Rattle.std.specs.Prelude.{slice_get, ◌==◌, nat_lt, cond, slice_set, not, Contains, ◌&&◌, if◌then◌else◌, nat_le, filter, ◌||◌, option_map, All, is_some, unwrap_or, find, flat_map, bytes_eq}
pub use Rattle.std.specs.declared.cmp.Ordering.{Ordering}
pub use Rattle.std.specs.declared.cmp.Ordering.TheVariants.{Less, Equal, Greater}
pub use Rattle.xdr_codec.specs.Handle.{handle_bytes}
pub use Rattle.xdr_codec.specs.declared.answer.Answer.{Answer}
pub use Rattle.xdr_codec.specs.declared.answer.Answer.TheVariants.{Failed, Done}
pub use Rattle.xdr_codec.specs.declared.attr.Attr.{Attr}
pub use Rattle.xdr_codec.specs.declared.status.Status.{Status}
pub use Rattle.sha1.specs.Sha1.{sha1}
pub use Rattle.rpc_record.proofs.lemmas.Streaming.{stream_comes}
pub use Rattle.rpc_record.specs.Records.{fed, Unread, Parts, stream, split, Came, record_of, nothing_read, marked}
pub use Rattle.rpc_record.specs.declared.records.Fed.{Fed}
pub use Rattle.rpc_record.specs.declared.refusal.Refusal.{Refusal}
pub use Rattle.nfs3_calls.specs.declared.call.Piece.{Piece}
pub use Rattle.nfs3_calls.specs.declared.call.Range.{Range}
pub use Rattle.hash_calls.specs.declared.call.Committed.{Committed}
pub use Rattle.hash_calls.specs.declared.call.HashRange.{HashRange}
pub use Rattle.hash_calls.specs.declared.call.Hashes.{Hashes}
pub use Rattle.hash_calls.specs.declared.call.Leased.{Leased}
pub use Rattle.hash_calls.specs.declared.call.Pair.{Pair}
pub use Rattle.wire.specs.Message.{MessageFits, message_spell}
pub use Rattle.wire.specs.Parse.{parse_of, IsExpected, waiting}
pub use Rattle.wire.specs.declared.fault.WireFault.{WireFault}
pub use Rattle.wire.specs.declared.message.Body.{Body}
pub use Rattle.wire.specs.declared.message.Message.{Message}
pub use Rattle.wire.specs.declared.message.Pending.{Pending}
pub use Rattle.wire.specs.declared.message.Program.{Program}
pub use Rattle.wire.specs.declared.message.RpcRefusal.{RpcRefusal}
pub use Rattle.wire.specs.declared.message.Waiting.{Waiting}
pub use Rattle.chunk_index.specs.Index.{Indexed}
pub use Rattle.client_cache.specs.Cache.{Entries}
pub use Rattle.client_cache.specs.declared.kept.Content.{Content}
pub use Rattle.chunk_cut.specs.Chunks.{chunks_of}
pub use Rattle.chunk_cut.specs.Places.{chunk_bytes, end_of, end_from}
pub use Rattle.chunk_cut.specs.declared.chunk.Chunk.{Chunk}
pub use Rattle.command_text.proofs.lemmas.Contents.{content_size}
pub use Rattle.command_text.specs.Content.{content_length, content_bytes}
pub use Rattle.command_text.specs.Parts.{lines_of}
pub use Rattle.command_text.specs.declared.command.Command.{Command}
pub use Rattle.command_text.specs.declared.content.Part.{Part}
pub use Rattle.trace_text.specs.Grammar.{line_of}
pub use Rattle.trace_text.specs.declared.line.Line.{Line}
pub use Rattle.trace_text.specs.declared.refusal.LineFault.{LineFault}
pub use Rattle.trace_text.specs.declared.refusal.LineFault.TheVariants.{Grammar}
pub use Rattle.register_model.specs.Register.{content_of, Value, changes, changed_before, is_untold, is_closed, value_from, is_lost, latest, value_after}
pub use Rattle.register_model.specs.declared.op.Op.{Op}
pub use Rattle.register_model.specs.declared.op.Opening.{Opening}
pub use Rattle.register_model.specs.declared.op.Traffic.{Traffic}
pub use Rattle.register_model.specs.declared.op.Word.{Word}
pub use Rattle.tree_reading.specs.Tree.{Tree}
pub use Rattle.file_tree.specs.Opening.{can_open}
pub use Rattle.chunk_calls.specs.Answers.{node_of, file, told_chunks, Node, directory, hashes_of, pair_of, is_end, meets, attr_of, leased_of}
pub use Rattle.server_core.specs.Answers.{piece_of, piece_bytes}
pub use Rattle.server_core.specs.Closing.{is_full, makes_change, at, makes, makes_unless, writes_unless, takes_commit, takes_commit_on, commits_whole, has_waiting, entry_by, names, names_unless, names_bytes}
pub use Rattle.chunk_calls.specs.Writing.{cond_fault, bytes_known, bytes_found}
pub use Rattle.server_core.specs.Step.{server_step, stands, connect, has_room, got_if, called}
pub use Rattle.server_core.specs.State.{FileChange, change_of}
pub use Rattle.server_core.specs.Leasing.{Leasing, later, unleased}
pub use Rattle.server_core.specs.declared.event.ServerStep.{ServerStep}
pub use Rattle.server_core.specs.declared.change.Wanted.{Wanted}
pub use Rattle.chunk_calls.specs.Files.{File}
pub use Rattle.server_core.specs.declared.journal.Entry.{Entry}
pub use Rattle.client_state.proofs.lemmas.Locals.{local_at_itself, local_at_another, without_at_itself, without_at_another}
pub use Rattle.file_close.specs.Closing.{store_at, is_stored, answered, store_of, names_all, names_from, names_next, names_more, commit_call, without_store, cond_call, with_whole, temp_call}
pub use Rattle.client_state.specs.Counting.{no_counts, ends, nothing_done}
pub use Rattle.client_state.specs.Local.{local_most, written_size, written, truncated, part_of}
pub use Rattle.file_open.specs.Opening.{read_at, with_hashes, reads_all, is_here, fetch_of, listed, reads_from, reads_next, reads_more, with_bytes, other_version, fault_in, slots_bytes, read_call, without_read, hash_call, shown_version, lease_call, reads_chunk, looked_up}
pub use Rattle.transfer_rules.specs.Limits.{calls_most, tries_most}
pub use Rattle.transfer_rules.specs.Chunks.{is_none}
pub use Rattle.file_open.specs.Shape.{broken_of, Broken, with_pairs, broken_if, broken_pair, broken_pairs, broken_sum, chunks_from}
pub use Rattle.client_state.specs.State.{has_call, store_pending, State, local_bytes, read_pending, pending, calls_of, local_at, without_call, waiting_of}
pub use Rattle.client_state.specs.Ending.{idle, may_ask, on_local, ended_by, is_open, drops, joined, cut, refused, bad_peer, denied, has_xids, forgets}
pub use Rattle.open_close.specs.Step.{command_step, took, got_step, done_with, edits, truncates, reads, abandons, too_big, writes, took_if, got_message, denied_if, got_fault}
pub use Rattle.file_open.specs.Fetching.{reads_on, reads_if, asks_file, asks_kept, opens_if, opens, retries, lists_on, told_shape, told_version, told_hashes, misfits, told_bytes, told_chunk, told_piece, told_first, tries_anew, told_lease, uses_kept, opened_with}
pub use Rattle.file_close.specs.Storing.{goes_if, goes_on, asks_temp, closes, sends_whole, told_named, told_way, told_stored, told_temp, told_whole}
pub use Rattle.file_close.specs.declared.calls.Names.{Names}
pub use Rattle.file_open.specs.declared.calls.Reads.{Reads}
pub use Rattle.client_state.specs.declared.step.BadPeer.{BadPeer}
pub use Rattle.client_state.specs.declared.step.ClientStep.{ClientStep}
pub use Rattle.transfer_rules.specs.declared.counts.Counts.{Counts}
pub use Rattle.client_state.specs.declared.step.Ended.{Ended}
pub use Rattle.client_state.specs.declared.step.Outcome.{Outcome}
pub use Rattle.client_state.specs.declared.task.Fetch.{Fetch}
pub use Rattle.client_state.specs.declared.task.Local.{Local}
pub use Rattle.client_state.specs.declared.task.ReadCall.{ReadCall}
pub use Rattle.client_state.specs.declared.task.Stage.{Stage}
pub use Rattle.client_state.specs.declared.task.Upload.{Upload}
pub use Rattle.client_state.specs.declared.task.UploadCall.{UploadCall}
pub use Rattle.client_state.specs.declared.task.Task.{Task}
pub use Rattle.client_state.specs.declared.task.Way.{Way}
pub use Rattle.trace_replay.specs.Book.{Book, value_at, version_at, Or, book_of, Collides, history, HadContent}
pub use Rattle.trace_replay.specs.Causes.{Tried, own_answer, is_busy, leaves, after_one, local_from, IsOpenRefused, can_ask, can_go, IsOpened, lasts, unless_asks, write_outcome, sized_outcome, local_before, IsClosed, IsChanged, HasCause, IsLost, IsEntered}
pub use Rattle.trace_ends.specs.Commands.{word_of, file_of, value_at_begin}
pub use Rattle.trace_ends.specs.Numbers.{numbered, with_numbered}
pub use Rattle.trace_ends.specs.Session.{is_raw, raw_session, Session, Seat, session_of, is_newest, taken_of, settled_ops, new_seat, new_session, commanded_session, taken_with}
pub use Rattle.trace_ends.specs.Core.{Core, Event.Serves, CoreStep, Event.Hears, happens, Event, Event.Cuts, server_waiting, server_waits, Event.Joins, Event.Does, Event.Settles, Event.Hangs, Event.RawJoins, serves_if, serves_none, serves_unless, loses, raw_joins, raw_joins_as, raws_with, raws_on, serves, cuts_if, does, joins_as, cuts, joins, hangs_if, hangs, acted, Loss.Nothing, hears, hears_at, hears_if, settles, Loss, commanded_sessions, settled_by, cut_session, Loss.Down_of, Loss.Up_of, quiet}
pub use Rattle.trace_ends.specs.Ops.{ops_with, ops_after, op_after, counted, has_point, point_if, place_after, told_of, no_traffic, begun, place_with, taken_at, value_of, ended_op, pointed, pointed_at, op_ended, closing_with}
pub use Rattle.trace_replay.specs.Delivery.{taken_up, all_happened, up_at, down_at, up_length, down_length, up_some, down_some, up_all, round, is_still, passes, up_taken, down_taken, up_events, down_events}
pub use Rattle.trace_ends.specs.Wires.{is_still_at, unless, Wire, bytes_of, up_put, up_put_in, new_wire}
pub use Rattle.trace_replay.specs.Faithful.{is_running, CameTo, IsDone, TellsVersion}
pub use Rattle.trace_replay.specs.Readings.{KeepsClocks}
pub use Rattle.trace_replay.specs.Run.{raw_joins_within, turned, run, asked, run_from, at_events, asked_by, line_most, sessions_most, asks_if, sized, joins_if, joins_within, event_asks, asks_at, asks, in_header, ended, asks_within}
pub use Rattle.trace_ends.specs.Queue.{count_of}
pub use Rattle.trace_replay.specs.Timed.{owners_of, accepted}
pub use Rattle.trace_replay.specs.Traffic.{Deal, deals_with, Deal.Sent, deals_of, Deal.Took, Deal.Found, stored_traffic, until, is_of, SentCommit, sent_traffic, taken_traffic, both, is_in, deals_in, CountsOwn, is_commit, number_if, first_number}
pub use Rattle.trace_replay.specs.Trail.{Moment, hashed_of, owner_in, Deed, step_of, Said, all_said, client_of, wanted_by, taken_by, deeds_of, turn_moments, moments, sent_of, deed_by, moments_from, hashed_by, wanted_if, taken_if, taken_from, deeds_from, moments_of, up_moments_at, up_moments, down_moments_at, down_moments, round_moments, passes_moments, sent_in, calls_in, asked_in, joined_by, joined_from, calls_among, sent_if, calls_by, calls_from, given_by}
pub use Rattle.trace_replay.specs.World.{raws_of, World, adjusts, happened, start, lost_by, down_put, routed, down_put_in, down_lost, up_lost}
pub use Rattle.trace_replay.specs.declared.fault.Refused.{Refused}
pub use Rattle.session_rules.specs.declared.taken_call.TakenCall.{TakenCall}
pub use Rattle.trace_replay.specs.declared.turn.Turn.{Turn}
pub use Rattle.kept_promise.specs.Rounds.{rounds}
pub use Rattle.kept_promise.specs.Talk.{Up, Up.Asks, Up.Replies, Down, Down.Tells, Down.Recalls, Mix, no_mix, queue_of, asks_in, tolds_in, up_message, down_message, reply_message, Call.Walks, Reply.Walked, NameReply, NameReply.LookedUp, NameReply.Shown, NameReply.Listed, NameReply.MadeFile, NameReply.MadeDir, NameReply.NoDir, NameReply.Gone, NameReply.Renamed, name_answer, Queue, Ask, Told, told_message, Reply, Call.Commit, Call, ask_message, Call.Lease, Reply.Versioned, Reply.Changed, Reply.Bytes, Call.Send, reply_program, Reply.Hashed, Reply.Named, Call.Name, Call.Hash, Call.Read, Call.Make, Reply.Made, Reply.Stored, reply_body, call_program, no_queue, Carries, call_message}
pub use Rattle.kept_promise.specs.Whole.{up_with, down_with}
