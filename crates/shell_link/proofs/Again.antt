-- A command that is asked on a new connection, or once more.
use Rattle.std.proofs.Common.{◌≡◌, Bool, true, false, Option, Some, None, refl, sym, subst, ap, ◌∙◌}
use Rattle.command_text.specs.declared.command.Command.{Command}
use Rattle.limits.specs.declared.TheConstants.{FILE_MOST}
use Rattle.client_state.specs.Bounding.{kept_within}
use Rattle.client_state.specs.Ending.{joined}
use Rattle.client_state.specs.State.{State}
use Rattle.client_state.specs.declared.step.Ended.{Ended}
use Rattle.shell_walks.specs.declared.remote.Answer.{Answer}
use Rattle.shell_walks.specs.declared.remote.Answer.TheVariants as answer
use Rattle.shell_walks.specs.declared.remote.Why.{Why}
use Rattle.shell_link.specs.Asking.{Runs, Once, makes, told_of, fresh_if, is_local, is_lost, looks, said_of, stops, rereads, look_if, wants_look, unlinked, unlinked_if, AsksOn, AsksUnless, Tries, AsksFirst, AsksFirst.at_once, AsksFirst.unjoined, AsksFirst.joined_first, Asks, Asks.at_first, Asks.again, AsksHinted, MayLearn}
use Rattle.shell_link.specs.declared.hearing.Heard.{Heard}

-- what came of a command that has ended
pub came_to : (was is m : Bool) (old new : State) (c : Command) (a : Answer) (h : Heard) (e : Option Ended) → Runs old c h new e → m ≡ makes c → a ≡ told_of m h e → is ≡ fresh_if h.came was → Once was old c a new is
came_to was is m old new c a h e r k t f = record { ended = e; heard = h; runs = r; told = t ∙ ap (λ (x : Bool). told_of x h e) k; fresh = f }

-- a connection that is lost too is asked for nothing else
pub in_vain : (was between : Bool) (old s : State) (c : Command) (b : Answer) (r : Option Why) (w : Why) → Once was old looks b s between → r ≡ stops b → r ≡ Some w → Tries was old c (answer.Failed w) s between
in_vain was between old s c b r w o e k = record { looked = b; tried = s; between = between; look = o; asks = subst (λ (x : Option Why). AsksUnless x between s c (answer.Failed w) s between) (sym k ∙ e) (refl, refl, refl) }

pub in_place : (was between is : Bool) (old s new : State) (c : Command) (b a : Answer) (r : Option Why) → Once was old looks b s between → r ≡ stops b → r ≡ None → Once between s c a new is → Tries was old c a new is
in_place was between is old s new c b a r o e k n = record { looked = b; tried = s; between = between; look = o; asks = subst (λ (x : Option Why). AsksUnless x between s c a new is) (sym k ∙ e) n }

-- a command on an open file isn't asked of a server
pub at_local : (was is : Bool) (old new : State) (c : Command) (a : Answer) → is_local c ≡ true → Once was old c a new is → AsksFirst was old c a new is
at_local was is old new c a l o = at_once (subst (λ (x : Bool). AsksOn (look_if x (rereads c) was) was old c a new is) (sym l) o)

-- and any other is, where a connection stands,
pub at_asked : (was tries is : Bool) (old new : State) (c : Command) (a : Answer) → tries ≡ wants_look was c → AsksOn tries was old c a new is → AsksFirst was old c a new is
at_asked was tries is old new c a t o = at_once (subst (λ (x : Bool). AsksOn x was old c a new is) t o)

-- where one was joined,
pub at_joined : (was fresh tries is : Bool) (old mid new : State) (c : Command) (a : Answer) → is_local c ≡ false → old.linked ≡ false → mid ≡ joined old → fresh ≡ true → tries ≡ wants_look true c → AsksOn tries fresh mid c a new is → AsksFirst was old c a new is
at_joined was fresh tries is old mid new c a l n m f t o = joined_first l n (subst (λ (s : State). AsksOn (wants_look true c) true s c a new is) m (subst (λ (b : Bool). AsksOn (wants_look true c) b mid c a new is) f (subst (λ (x : Bool). AsksOn x fresh mid c a new is) t o)))

-- a client that has no connection stays as it is where it loses that,
pub stays : (s new : State) → s.linked ≡ false → new ≡ unlinked s → new ≡ s
stays s new l e = e ∙ ap (λ (b : Bool). unlinked_if b s) l

-- and where none was
pub at_unjoined : (was fresh is : Bool) (old mid new : State) (c : Command) (a : Answer) → is_local c ≡ false → old.linked ≡ false → mid ≡ unlinked old → fresh ≡ was → Once fresh mid c a new is → AsksFirst was old c a new is
at_unjoined was fresh is old mid new c a l n m f o = unjoined l n (subst (λ (s : State). Once was s c a new is) (stays old mid n m) (subst (λ (b : Bool). Once b mid c a new is) f o))

-- once more
pub at_again : (was before fresh is : Bool) (old s mid new : State) (c : Command) (b a : Answer) → rereads c ≡ true → is_lost b ≡ true → AsksFirst was old c b s before → mid ≡ joined s → fresh ≡ true → Tries fresh mid c a new is → Asks was old c a new is
at_again was before fresh is old s mid new c b a r l k m f o = again s b before r l k (subst (λ (t : State). Tries true t c a new is) m (subst (λ (x : Bool). Tries x mid c a new is) f o))

-- or not
pub only_first : (was is : Bool) (old new : State) (c : Command) (a : Answer) → AsksFirst was old c a new is → Asks was old c a new is
only_first was is old new c a k = at_first k

pub stayed : (was before is : Bool) (old s new : State) (c : Command) (a : Answer) → AsksFirst was old c a s before → s.linked ≡ false → new ≡ unlinked s → is ≡ before → Asks was old c a new is
stayed was before is old s new c a k l e w = at_first (subst (λ (b : Bool). AsksFirst was old c a new b) (sym w) (subst (λ (t : State). AsksFirst was old c a t before) (sym (stays s new l e)) k))

-- the copy of a command is that command, and is asked again
pub repeated : (was between is : Bool) (old mid new : State) (k c : Command) (b a : Answer) → k ≡ c → rereads c ≡ true → AsksFirst was old c b mid between → ((o : State) (w : Bool) → rereads k ≡ true → AsksFirst w o k b mid between → Asks w o k a new is) → Asks was old c a new is
repeated was between is old mid new k c b a e r first more = subst (λ (x : Command). Asks was old x a new is) e (more old was (subst (λ (x : Command). rereads x ≡ true) (sym e) r) (subst (λ (x : Command). AsksFirst was old x b mid between) (sym e) first))

-- what may have been learned before
pub hinted : (was is r : Bool) (old fewer mid new : State) (c : Command) (b a : Answer) → fewer ≡ kept_within FILE_MOST old → MayLearn fewer mid → Asks was mid c b new is → r ≡ rereads c → a ≡ said_of r b → AsksHinted was old c a new is
hinted was is r old fewer mid new c b a f l k e s = record { hinted = mid; hints = subst (λ (x : State). MayLearn x mid) f l; heard = b; asks = k; told = s ∙ ap (λ (x : Bool). said_of x b) e }

-- which of the two it is
pub where_tried : (tries was is : Bool) (s new : State) (c : Command) (a : Answer) → tries ≡ true → Tries was s c a new is → AsksOn tries was s c a new is
where_tried tries was is s new c a e t = subst (λ (b : Bool). AsksOn b was s c a new is) (sym e) t

pub where_asked : (tries was is : Bool) (s new : State) (c : Command) (a : Answer) → tries ≡ false → Once was s c a new is → AsksOn tries was s c a new is
where_asked tries was is s new c a e o = subst (λ (b : Bool). AsksOn b was s c a new is) (sym e) o
