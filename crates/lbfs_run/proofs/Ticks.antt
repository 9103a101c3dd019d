-- Readings of the clocks that rise together keep the clock rule.
use Rattle.std.proofs.Common.{◌≡◌, ℕ, ◌+◌, ◌-◌, ◌≤◌, [], ◌∷◌, ◌++◌, get_or, refl, arith}
use Rattle.std.specs.Prelude.{Ok, All}
use Rattle.std.proofs.lemmas.List.Elements.{All-push, All-weaker}
use Rattle.std.proofs.lemmas.List.Quantifiers.{all_pairs_push}
use Rattle.clock_rule.specs.declared.rule.Note.{Note}
use Rattle.clock_rule.specs.declared.rule.Reading.TheVariants as reads
use Rattle.clock_rule.specs.Clocks.{Clocked, read_at, event_of}
use Rattle.clock_rule.specs.Keeping.{KeepRule, KeptSoFar, at_first, and_reading}
use Rattle.clock_rule.proofs.lemmas.Keeping.{kept_at_start, kept_moved, taken_kept}

-- the event is not past this reading, and was no more than 10 past the server's
abbrev pub IsNear : (at : ℕ) → Note → Type 0
IsNear at n = (n.reading ≤ at) × (n.reading ≤ n.server + 10)

-- what was read so far is near, up to these readings of the server's clock and of the clients'
pub record Ticks (clocks : Clocked) (server at : ℕ) : Type 0 where
  pub kept : KeptSoFar clocks
  pub drift : clocks.drift ≡ 50
  pub last : clocks.server ≡ server
  pub near : All (IsNear at) clocks.notes

pub ticks_first : (term : ℕ) → Ticks (at_first term 50) 0 0
ticks_first term = record { kept = kept_at_start term 50; drift = refl; last = refl; near = λ k d within. absurd (omega arith) }

-- a later reading of the server's clock
pub server_later : (clocks : Clocked) (server at now : ℕ) → Ticks clocks server at → server ≤ now → Ticks (record clocks { server = now }) now at
server_later clocks server at now t up = record { kept = kept_moved clocks now (omega (arith, t.last)) t.kept; drift = t.drift; last = refl; near = t.near }

pub server_read : (clocks : Clocked) (server at now : ℕ) → Ticks clocks server at → server ≤ now → read_at clocks (reads.Server now) ≡ Ok (and_reading clocks (reads.Server now))
server_read clocks server at now t up = taken_kept clocks (reads.Server now) (omega (arith, t.last)) (server_later clocks server at now t up).kept

keeps : (clocks : Clocked) (at now : ℕ) (n : Note) (client : ℕ) → clocks.drift ≡ 50 → at ≤ now → clocks.server ≤ now → n.server ≤ clocks.server → IsNear at n → KeepRule clocks.term clocks.drift n (record { client = client; reading = now; server = clocks.server })
keeps clocks at now n client drift later ahead below near = record {
  server = below;
  client = λ same. omega (arith, near.0, later);
  apart = λ same within. omega (arith, near.1, ahead, below, drift);
}

-- an event of a client at a later reading, no more than 10 past the server's last
pub client_later : (clocks : Clocked) (server at client now : ℕ) → Ticks clocks server at → at ≤ now → server ≤ now → now ≤ server + 10 → Ticks (and_reading clocks (reads.Client client now)) server now
client_later clocks server at client now t later ahead near =
    let note : Note = event_of clocks client now in
    let ahead' : clocks.server ≤ now = omega (arith, t.last, ahead) in
    record {
      kept = record {
        pairs = all_pairs_push (KeepRule clocks.term clocks.drift) clocks.notes note t.kept.pairs (λ k d within. keeps clocks at now (get_or clocks.notes k d) client t.drift later ahead' (t.kept.until k d within) (t.near k d within));
        until = All-push (λ n. n.server ≤ clocks.server) clocks.notes note t.kept.until (omega arith);
      };
      drift = t.drift;
      last = t.last;
      near = All-push (IsNear now) clocks.notes note (All-weaker (IsNear at) (IsNear now) (λ n h. (omega (arith, h.0, later), h.1)) clocks.notes t.near) (omega arith, omega (arith, near, t.last));
    }

pub client_read : (clocks : Clocked) (server at client now : ℕ) → Ticks clocks server at → at ≤ now → server ≤ now → now ≤ server + 10 → read_at clocks (reads.Client client now) ≡ Ok (and_reading clocks (reads.Client client now))
client_read clocks server at client now t later ahead near = taken_kept clocks (reads.Client client now) (omega arith) (client_later clocks server at client now t later ahead near).kept

-- both
pub both_later : (clocks : Clocked) (server at client now : ℕ) → Ticks clocks server at → server ≤ now → at ≤ now → Ticks (and_reading clocks (reads.Both now client now)) now now
both_later clocks server at client now t up later = client_later (record clocks { server = now }) now at client now (server_later clocks server at now t up) later (omega arith) (omega arith)

pub both_read : (clocks : Clocked) (server at client now : ℕ) → Ticks clocks server at → server ≤ now → at ≤ now → read_at clocks (reads.Both now client now) ≡ Ok (and_reading clocks (reads.Both now client now))
both_read clocks server at client now t up later = taken_kept clocks (reads.Both now client now) (omega (arith, t.last, up)) (both_later clocks server at client now t up later).kept
