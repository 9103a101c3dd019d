-- Each line of a block is taken.
use Rattle.std.proofs.Common.{◌≡◌, ℕ, ◌+◌, ◌*◌, ◌/◌, ◌%◌, ◌^◌, ◌<◌, ◌≤◌, ◌==◌, List, [], ◌∷◌, ◌++◌, Bool, true, false, cond, decimal, arith}
use Rattle.command_text.specs.declared.command.Command.TheVariants.{Open, Write, Close, Abandon}
use Rattle.command_text.specs.declared.content.Part.TheVariants.{Bytes}
use Rattle.trace_replay.specs.Run.{line_most}
use Rattle.trace_replay.specs.Timed.{Timed}
use Rattle.trace_generator.specs.Lines.{choice, client_of, file_of, offset_of, time_of, pass_line, change_lines, abandon_lines, block_lines}
use Rattle.lbfs_run.proofs.Spelled.{pass_said, settle_said, open_said, write_said, close_said, abandon_said}
use Rattle.lbfs_run.proofs.Steps.{Stands, Leads, no_lines, IsClient, does_then, passes_then, settles_then}

-- the numbers of a block are within the grammar, and its lines within the limit
record AreIn (client file offset block time n : ℕ) : Type 0 where
  client_is : IsClient client
  file_fits : file < 2 ^ 64
  offset_fits : offset < 2 ^ 64
  block_fits : block < 2 ^ 64
  time_fits : time < 2 ^ 63
  few : n + 9 ≤ line_most

wide : (client : ℕ) → IsClient client → client < 2 ^ 64
wide client c = omega (arith, c.1)

abandon_leads : (v : Timed) (n client file offset block time : ℕ) → AreIn client file offset block time n → Stands v time time → Leads v n (abandon_lines client file time) time time
abandon_leads v n client file offset block time h stands =
    does_then v n time time client time time time _ (Abandon file) [] stands (abandon_said client time file (wide client h.client_is) h.time_fits h.file_fits) (omega (arith, h.few)) h.client_is (omega arith) (omega arith) (omega arith)
    (λ w s. no_lines w (n + 1) time time s)

-- rounds in which both clocks read what they last read
again : (v : Timed) (n client rounds time : ℕ) (lines : List (List ℕ)) → IsClient client → rounds < 2 ^ 64 → time < 2 ^ 63 → n ≤ line_most → Stands v time time → ((w : Timed) → Stands w time time → Leads w (n + 1) lines time time) → Leads v n (pass_line client rounds time ∷ lines) time time
again v n client rounds time lines c r t few stands next =
    passes_then v n time time client rounds time time time _ lines stands (pass_said client rounds time (wide client c) r t) few c (omega arith) (omega arith) next

change_leads : (v : Timed) (n client file offset block time : ℕ) → AreIn client file offset block time n → Stands v time time → Leads v n (change_lines client file offset block time) time time
change_leads v n client file offset block time h stands =
    let c : IsClient client = h.client_is in
    let t : time < 2 ^ 63 = h.time_fits in
    let few : n + 9 ≤ line_most = h.few in
    does_then v n time time client time time time _ (Write file offset (Bytes (decimal block) ∷ [])) _ stands (write_said client time file offset block (wide client c) t h.file_fits h.offset_fits h.block_fits) (omega (arith, few)) c (omega arith) (omega arith) (omega arith)
    (λ v1 s1. does_then v1 (n + 1) time time client time time time _ (Close file) _ s1 (close_said client time file (wide client c) t h.file_fits) (omega (arith, few)) c (omega arith) (omega arith) (omega arith)
    (λ v2 s2. again v2 (n + 1 + 1) client 40 time _ c (omega arith) t (omega (arith, few)) s2
    (λ v3 s3. again v3 (n + 1 + 1 + 1) 1 2 time _ (omega arith, omega arith) (omega arith) t (omega (arith, few)) s3
    (λ v4 s4. again v4 (n + 1 + 1 + 1 + 1) 2 2 time _ (omega arith, omega arith) (omega arith) t (omega (arith, few)) s4
    (λ v5 s5. again v5 (n + 1 + 1 + 1 + 1 + 1) 3 2 time _ (omega arith, omega arith) (omega arith) t (omega (arith, few)) s5
    (λ v6 s6. again v6 (n + 1 + 1 + 1 + 1 + 1 + 1) 4 2 time _ (omega arith, omega arith) (omega arith) t (omega (arith, few)) s6
    (λ v7 s7. settles_then v7 (n + 1 + 1 + 1 + 1 + 1 + 1 + 1) time time time time time _ _ s7 (settle_said time t) (omega (arith, few)) (omega arith)
    (λ v8 s8. again v8 (n + 1 + 1 + 1 + 1 + 1 + 1 + 1 + 1) client 2 time [] c (omega arith) t (omega (arith, few)) s8
    (λ v9 s9. no_lines v9 (n + 1 + 1 + 1 + 1 + 1 + 1 + 1 + 1 + 1) time time s9)))))))))

rest_leads : (leaves : Bool) (v : Timed) (n client file offset block time : ℕ) → AreIn client file offset block time n → Stands v time time → Leads v n (cond leaves (abandon_lines client file time) (change_lines client file offset block time)) time time
rest_leads true v n client file offset block time h stands = abandon_leads v n client file offset block time h stands
rest_leads false v n client file offset block time h stands = change_leads v n client file offset block time h stands

is_client : (q : ℕ) → IsClient (client_of q)
is_client q = (omega arith, omega arith)

-- the first so many blocks' clocks read no more than this before the next
pub block_leads : (v : Timed) (n server seed block : ℕ) → Stands v server server → server + 10 ≡ time_of block → block ≤ 5000 → n + 11 ≤ line_most → Leads v n (block_lines seed block) (time_of block) (time_of block)
unfolding block_lines
block_leads v n server seed block stands now few lines =
    let q : ℕ = choice seed block in
    let c : IsClient (client_of q) = is_client q in
    let t : time_of block < 2 ^ 63 = omega (arith, few) in
    let f : file_of q < 2 ^ 64 = omega arith in
    does_then v n server server (client_of q) (time_of block) (time_of block) (time_of block) _ (Open (file_of q)) _ stands (open_said (client_of q) (time_of block) (file_of q) (wide (client_of q) c) t f) (omega (arith, lines)) c (omega (arith, now)) (omega (arith, now)) (omega (arith, now))
    (λ v1 s1. passes_then v1 (n + 1) server (time_of block) (client_of q) 40 (time_of block) (time_of block) (time_of block) _ _ s1 (pass_said (client_of q) 40 (time_of block) (wide (client_of q) c) (omega arith) t) (omega (arith, lines)) c (omega arith) (omega (arith, now))
    (λ v2 s2. rest_leads (q / 32 % 2 == 0) v2 (n + 1 + 1) (client_of q) (file_of q) (offset_of q) block (time_of block) (record { client_is = c; file_fits = f; offset_fits = omega arith; block_fits = omega (arith, few); time_fits = t; few = omega (arith, lines) }) s2))
