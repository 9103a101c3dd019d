-- What each call makes of what the threads of a mount share: all that the clauses of `Desk` say of it, together.
use Rattle.std.specs.Prelude.{◌≡◌, ◌⊎◌, ◌+◌, ◌-◌, ◌^◌, ℕ, List, [], min, Option, Some, None, Result, Bool, true, false, IfOk, OnErr}
use Rattle.std.specs.declared.alloc.AllocError.{AllocError}
use Rattle.record_ends.specs.declared.end.End.{End}
use Rattle.lbfs_client.specs.Mounting.{Continues, joined_step}
use Rattle.lbfs_client.specs.declared.line.MountLine.{MountLine}
use Rattle.mount_desk.specs.Outlet.{HearsOut, LeavesOut, LosesOut, Outlet, TurnsOut, outlet, stands, text_of}
use Rattle.mount_desk.specs.Turns.{Hears, Loses, RunsHinted, Turns, counted, wants_link}
use Rattle.mount_desk.specs.declared.answer_line.AnswerLine.{AnswerLine}
use Rattle.mount_desk.specs.declared.desk.Desk.{Desk}
use Rattle.mount_desk.specs.declared.desk.Left.{Left}

module _ {F L : Type 0} where
  -- what goes out of a desk
  abbrev pub outlet_of : Desk F L → Outlet L
  outlet_of d = outlet d.link d.waits d.line

  -- no client takes a turn
  pub record Rests (old new : Desk F L) : Type 0 where
    pub mounted : new.mounted ≡ old.mounted
    pub starved : new.starved ≡ old.starved
    pub connection : new.connection ≡ old.connection
    pub most : new.most ≡ old.most
    pub listed : new.listed ≡ old.listed

  -- the line of what ended is taken, once
  pub record DeskTakes (old : Desk F L) (line : Result AnswerLine AllocError) (new : Desk F L) : Type 0 where
    pub taken : IfOk line (λ l. (old.line ≡ Some l) × (new.line ≡ None))
    pub none : OnErr line ((old.starved ≡ true) ⊎ (old.line ≡ None))
    pub rest : Rests old new

module _ {F L : Type 0} (held : L → Option (List ℕ)) (faults : L → ℕ) where
  -- a line begins
  pub record DeskRuns (old : Desk F L) (line : MountLine) (now : ℕ) (wants : Bool) (new : Desk F L) : Type 0 where
    pub turn : new.starved ≡ false → Turns old.most (λ m said. RunsHinted old.mounted line now m said) now new.mounted
    pub out : new.starved ≡ false → TurnsOut held faults old.most (λ m said. RunsHinted old.mounted line now m said) now new.mounted (outlet_of old) (outlet_of new) (λ m. false)
    pub asks : wants ≡ wants_link line old.mounted.client.linked
    pub listed : new.listed ≡ 0
    pub fed : new.starved ≡ false → old.starved ≡ false
    pub number : (new.connection ≡ old.connection) × (new.most ≡ old.most)

  -- a put goes on
  pub record DeskGoesOn (old : Desk F L) (now : ℕ) (new : Desk F L) : Type 0 where
    pub turn : new.starved ≡ false → Turns old.most (λ m said. Continues old.mounted now m said) now new.mounted
    pub out : new.starved ≡ false → TurnsOut held faults old.most (λ m said. Continues old.mounted now m said) now new.mounted (outlet_of old) (outlet_of new) (λ m. false)
    pub fed : new.starved ≡ false → old.starved ≡ false
    pub number : (new.connection ≡ old.connection) × (new.most ≡ old.most) × (new.listed ≡ old.listed)

  -- a connection is joined
  pub record DeskJoins (old : Desk F L) (link : L) (now number : ℕ) (new : Desk F L) : Type 0 where
    pub turn : new.starved ≡ false → Turns old.most (λ m said. joined_step old.mounted ≡ (m, said)) now new.mounted
    pub out : new.starved ≡ false → TurnsOut held faults old.most (λ m said. joined_step old.mounted ≡ (m, said)) now new.mounted (outlet (Some link) [] old.line) (outlet_of new) (λ m. false)
    pub listed : new.listed ≡ old.listed
    pub fed : new.starved ≡ false → old.starved ≡ false
    pub numbered : (number ≡ new.connection) × (new.connection ≡ min (old.connection + 1) (2 ^ 64 - 1)) × (new.most ≡ old.most)

  -- a record came on a connection
  pub record DeskHears (old : Desk F L) (connection : ℕ) (bytes : List ℕ) (more : Bool) (now : ℕ) (goes_on : Bool) (new : Desk F L) : Type 0 where
    pub other : stands old.connection connection old.link old.starved ≡ false → new ≡ old
    pub turn : ((new.mounted ≡ old.mounted) × (new.starved ≡ old.starved) × (new.listed ≡ old.listed)) ⊎ ((new.listed ≡ counted old.listed bytes) × (new.starved ≡ false → Hears old.most old.listed old.mounted bytes now new.mounted))
    pub count : stands old.connection connection old.link old.starved ≡ true → new.listed ≡ counted old.listed bytes
    pub out : stands old.connection connection old.link old.starved ≡ true → new.starved ≡ false → HearsOut held faults old.most old.listed old.mounted bytes now new.mounted (outlet_of old) (outlet_of new) more
    pub stays : goes_on ≡ stands new.connection connection new.link new.starved
    pub fed : new.starved ≡ false → old.starved ≡ false
    pub number : (new.connection ≡ old.connection) × (new.most ≡ old.most)

  -- no more records come on one
  pub record DeskStops (old : Desk F L) (connection : ℕ) (end : End) (now : ℕ) (new : Desk F L) : Type 0 where
    pub other : stands old.connection connection old.link old.starved ≡ false → new ≡ old
    pub turn : ((new.mounted ≡ old.mounted) × (new.starved ≡ old.starved) × (new.listed ≡ old.listed)) ⊎ ((new.listed ≡ old.listed) × (new.starved ≡ false → Loses old.most old.mounted end now new.mounted))
    pub out : stands old.connection connection old.link old.starved ≡ true → new.starved ≡ false → LosesOut old.most old.mounted end now new.mounted (text_of old.line) (text_of new.line)
    pub link : stands old.connection connection old.link old.starved ≡ true → new.link ≡ None
    pub fed : new.starved ≡ false → old.starved ≡ false
    pub number : (new.connection ≡ old.connection) × (new.most ≡ old.most)

  -- the mount ends
  pub record DeskLeaves (old : Desk F L) (left : Left) (new : Desk F L) : Type 0 where
    pub out : LeavesOut held faults old.link old.waits left.given
    pub link : new.link ≡ None
    pub rest : Rests old new
