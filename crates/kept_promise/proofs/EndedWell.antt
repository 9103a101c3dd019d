-- An operation that is left alone has ended well, by what it came to.
use Rattle.std.proofs.Common.{◌≡◌, inl, inr, ℕ, ◌≤◌, List, Option, Some, None, Bool, true, false, refl, ap, subst, arith, IsSome}
use Rattle.command_text.specs.declared.command.Command.TheVariants as command
use Rattle.register_model.specs.declared.op.Outcome.{Outcome}
use Rattle.register_model.specs.declared.op.Outcome.TheVariants as told
use Rattle.command_text.specs.declared.path.PathCommand.{PathCommand}
use Rattle.command_text.specs.declared.path.PathCommand.TheVariants as path
use Rattle.trace_replay.specs.Causes.{NamedCause}
use Rattle.trace_replay.specs.Complete.{IsUncut, EndsNamed, EndsWell}
use Rattle.kept_promise.proofs.Common.{Command, Op, Deed, Book, can_ask, can_go, ◌||◌, IsLost, HasCause, is_busy, own_answer, CameTo, IsDone}

-- a client that saw no connection lost since its operation began did not end it so
not_lost : (book : Book) (o : Op) → IsUncut book o → ((e : ℕ) → o.end ≡ Some e → o.begin ≤ e) → IsLost book o → ⊥
not_lost book o uncut order l =
    let before = uncut l.moment l.there l.event_is in
    let at = order l.end l.end_is in
    omega (arith, before, at, l.step_is)

some_end : (e : Option ℕ) → IsSome e → e ≡ None → ⊥
some_end None h is = absurd cc
some_end (Some n) h is = absurd cc

-- what asked the server
opened_well : (book : Book) (f : ℕ) (o : Op) (outcome : Outcome) → (IsLost book o → ⊥) → (o.end ≡ None → ⊥) → HasCause book (command.Open f) o outcome → EndsWell (command.Open f) None outcome
opened_well book f o (told.Opened len digest) lost runs h = tt
opened_well book f o (told.Changed first last) lost runs h = tt
opened_well book f o (told.Refused status) lost runs (inl h) = inl h.0
opened_well book f o (told.Refused status) lost runs (inr h) = inr h.0
opened_well book f o told.Lost lost runs h = absurd (lost h)
opened_well book f o told.Running lost runs h = absurd (runs h)
opened_well book f o _ lost runs h = absurd h

rewritten_well : (book : Book) (f : ℕ) (o : Op) (outcome : Outcome) → (IsLost book o → ⊥) → (o.end ≡ None → ⊥) → HasCause book (command.Rewrite f) o outcome → EndsWell (command.Rewrite f) None outcome
rewritten_well book f o told.Done lost runs h = tt
rewritten_well book f o (told.Refused status) lost runs (inl h) = inl h.0
rewritten_well book f o (told.Refused status) lost runs (inr h) = inr h.status_is
rewritten_well book f o told.Lost lost runs h = absurd (lost h)
rewritten_well book f o told.Running lost runs h = absurd (runs h)
rewritten_well book f o _ lost runs h = absurd h

closed_well : (book : Book) (f : ℕ) (x : List ℕ) (o : Op) (outcome : Outcome) → (IsLost book o → ⊥) → (o.end ≡ None → ⊥) → HasCause book (command.Close f) o outcome → EndsWell (command.Close f) (Some x) outcome
closed_well book f x o (told.Closed version len digest) lost runs h = tt
closed_well book f x o (told.Refused status) lost runs (inl h) = inl h.status_is
closed_well book f x o (told.Refused status) lost runs (inr h) = inr h.status_is
closed_well book f x o told.Lost lost runs h = absurd (lost h)
closed_well book f x o told.Running lost runs h = absurd (runs h)
closed_well book f x o _ lost runs h = absurd h

-- a command on names: where it was refused, by a status that it may have
named_well : (book : Book) (n : PathCommand) (o : Op) (outcome : Outcome) → ((status : ℕ) → outcome ≡ told.Refused status → EndsNamed n (told.Refused status)) → (IsLost book o → ⊥) → (o.end ≡ None → ⊥) → NamedCause book n o outcome → EndsNamed n outcome
named_well book (path.Find s) o (told.Opened len digest) refused lost runs h = tt
named_well book (path.Find s) o told.AlreadyOpen refused lost runs h = tt
named_well book (path.Find s) o (told.Changed first last) refused lost runs h = tt
named_well book (path.Rewrite s) o told.Done refused lost runs h = tt
named_well book (path.Rewrite s) o told.AlreadyOpen refused lost runs h = tt
named_well book (path.Look s) o (told.Seen id kind version len) refused lost runs h = tt
named_well book path.LookRoot o (told.Seen id kind version len) refused lost runs h = tt
named_well book (path.List p) o (told.Names names) refused lost runs h = tt
named_well book (path.List p) o told.NoLink refused lost runs h = tt
named_well book (path.Make s) o told.Done refused lost runs h = tt
named_well book (path.MakeDir s) o told.Done refused lost runs h = tt
named_well book (path.Remove s) o told.Done refused lost runs h = tt
named_well book (path.RemoveDir s) o told.Done refused lost runs h = tt
named_well book (path.Rename s t) o told.Done refused lost runs h = tt
named_well book n o (told.Refused status) refused lost runs h = refused status refl
named_well book n o told.Lost refused lost runs h = absurd (lost h)
named_well book n o told.Running refused lost runs h = absurd (runs h)
named_well book n o _ refused lost runs h = absurd h

came_well : (book : Book) (d : Deed) (o : Op) (l : Option (List ℕ)) (k : Command) → d.command ≡ k → ((n : PathCommand) → k ≡ command.Named n → (status : ℕ) → o.outcome ≡ told.Refused status → EndsNamed n (told.Refused status)) → (IsLost book o → ⊥) → (o.end ≡ None → ⊥) → CameTo book (record d { command = k }) o l (own_answer false true k l) → EndsWell k l o.outcome
came_well book d o None (command.Named n) e named lost runs h = named_well book n o o.outcome (named n refl) lost runs h.0
came_well book d o (Some x) (command.Named n) e named lost runs h = named_well book n o o.outcome (named n refl) lost runs h.0
came_well book d o None (command.Open f) e named lost runs h = opened_well book f o o.outcome lost runs h.0
came_well book d o None (command.Rewrite f) e named lost runs h = rewritten_well book f o o.outcome lost runs h.0
came_well book d o (Some x) (command.Close f) e named lost runs h = closed_well book f x o o.outcome lost runs h.0
came_well book d o _ _ e named lost runs h = tt

pub ends_well : (book : Book) (d : Deed) (o : Op) (l : Option (List ℕ)) → ((n : PathCommand) → d.command ≡ command.Named n → (status : ℕ) → o.outcome ≡ told.Refused status → EndsNamed n (told.Refused status)) → IsDone book d o l → IsSome o.end → can_ask d.joined d.calls ≡ true → is_busy book.ops o ≡ false → IsUncut book o → EndsWell d.command l o.outcome
ends_well book d o l named h ended asks free uncut =
    let came : CameTo book d o l (own_answer false true d.command l) = subst (λ (b : Bool). CameTo book d o l (own_answer false b d.command l)) (ap (λ (b : Bool). b || d.fresh) asks) (subst (λ (b : Bool). CameTo book d o l (own_answer b (can_go d) d.command l)) free h.came_to) in
    came_well book d o l d.command refl named (not_lost book o uncut h.order) (some_end o.end ended) came
