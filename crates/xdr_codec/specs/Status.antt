-- The numbers of the statuses (RFC 1813, section 2.6; from 20001 on those of LBFS).
use Rattle.std.specs.Prelude.{ℕ, List, [], ◌∷◌, Option}
use Rattle.xdr_codec.specs.Tables.{named}
use Rattle.xdr_codec.specs.declared.status.Status.{Status}
use Rattle.xdr_codec.specs.declared.status.Status.TheVariants.{Perm, NoEnt, Io, Acces, Exist, NotDir, IsDir, Inval, FBig, NoSpc, NameTooLong, NotEmpty, Stale, BadHandle, BadCookie, NotSupp, TooSmall, ServerFault, Jukebox, HashNotFound, FdInUse, BadFd, TooManyTemps, Conflict}

abbrev pub status_number : Status → ℕ
status_number Perm = 1
status_number NoEnt = 2
status_number Io = 5
status_number Acces = 13
status_number Exist = 17
status_number NotDir = 20
status_number IsDir = 21
status_number Inval = 22
status_number FBig = 27
status_number NoSpc = 28
status_number NameTooLong = 63
status_number NotEmpty = 66
status_number Stale = 70
status_number BadHandle = 10001
status_number BadCookie = 10003
status_number NotSupp = 10004
status_number TooSmall = 10005
status_number ServerFault = 10006
status_number Jukebox = 10008
status_number HashNotFound = 20001
status_number FdInUse = 20002
status_number BadFd = 20003
status_number TooManyTemps = 20004
status_number Conflict = 20005

abbrev pub statuses : List Status
statuses = Perm ∷ NoEnt ∷ Io ∷ Acces ∷ Exist ∷ NotDir ∷ IsDir ∷ Inval ∷ FBig ∷ NoSpc ∷ NameTooLong ∷ NotEmpty ∷ Stale ∷ BadHandle ∷ BadCookie ∷ NotSupp ∷ TooSmall ∷ ServerFault ∷ Jukebox ∷ HashNotFound ∷ FdInUse ∷ BadFd ∷ TooManyTemps ∷ Conflict ∷ []

abbrev pub status_of : ℕ → Option Status
status_of n = named status_number n statuses
