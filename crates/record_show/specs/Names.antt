-- The names of programs and procedures (RFC 1813, section 3.3; LBFS and its callback), and of what becomes of
-- calls (RFC 5531, section 9: accept_stat, reject_stat).
use Rattle.std.specs.Prelude.{ℕ, List, codes}
use Rattle.nfs3_calls.specs.declared.message.NfsProc.{NfsProc}
use Rattle.nfs3_calls.specs.declared.message.NfsProc.TheVariants as nfs
use Rattle.hash_calls.specs.declared.message.BackProc.{BackProc}
use Rattle.hash_calls.specs.declared.message.BackProc.TheVariants as back
use Rattle.hash_calls.specs.declared.message.LbProc.{LbProc}
use Rattle.hash_calls.specs.declared.message.LbProc.TheVariants as lb
use Rattle.wire.specs.declared.message.Program.{Program}
use Rattle.wire.specs.declared.message.Program.TheVariants as program
use Rattle.wire.specs.declared.message.RpcRefusal.{RpcRefusal}
use Rattle.wire.specs.declared.message.RpcRefusal.TheVariants as refusal
use Rattle.record_show.specs.declared.stat.AcceptStat.{AcceptStat}
use Rattle.record_show.specs.declared.stat.AcceptStat.TheVariants as accept
use Rattle.record_show.specs.declared.stat.RejectStat.{RejectStat}
use Rattle.record_show.specs.declared.stat.RejectStat.TheVariants as reject
use Rattle.record_show.specs.declared.stat.Stat.{Stat}
use Rattle.record_show.specs.declared.stat.Stat.TheVariants.{Accepted, Denied}

abbrev pub program_name : Program → List ℕ
program_name (program.Nfs p) = codes "nfs"
program_name (program.Lb p) = codes "lbfs"
program_name (program.Back p) = codes "back"

abbrev pub nfs_name : NfsProc → List ℕ
nfs_name nfs.Null = codes "NULL"
nfs_name nfs.GetAttr = codes "GETATTR"
nfs_name nfs.Lookup = codes "LOOKUP"
nfs_name nfs.Access = codes "ACCESS"
nfs_name nfs.Read = codes "READ"
nfs_name nfs.Create = codes "CREATE"
nfs_name nfs.MkDir = codes "MKDIR"
nfs_name nfs.Remove = codes "REMOVE"
nfs_name nfs.RmDir = codes "RMDIR"
nfs_name nfs.Rename = codes "RENAME"
nfs_name nfs.ReadDir = codes "READDIR"
nfs_name nfs.FsInfo = codes "FSINFO"

abbrev pub lb_name : LbProc → List ℕ
lb_name lb.Null = codes "NULL"
lb_name lb.GetLease = codes "GETLEASE"
lb_name lb.GetHash = codes "GETHASH"
lb_name lb.MkTmpFile = codes "MKTMPFILE"
lb_name lb.TmpWrite = codes "TMPWRITE"
lb_name lb.CondWrite = codes "CONDWRITE"
lb_name lb.CommitTmp = codes "COMMITTMP"
lb_name lb.LookLease = codes "LOOKLEASE"

abbrev pub back_name : BackProc → List ℕ
back_name back.Null = codes "NULL"
back_name back.Recall = codes "RECALL"

abbrev pub procedure_name : Program → List ℕ
procedure_name (program.Nfs p) = nfs_name p
procedure_name (program.Lb p) = lb_name p
procedure_name (program.Back p) = back_name p

abbrev pub refusal_name : RpcRefusal → List ℕ
refusal_name refusal.ProgUnavail = codes "PROG_UNAVAIL"
refusal_name (refusal.ProgMismatch low high) = codes "PROG_MISMATCH"
refusal_name refusal.ProcUnavail = codes "PROC_UNAVAIL"
refusal_name refusal.GarbageArgs = codes "GARBAGE_ARGS"
refusal_name refusal.SystemErr = codes "SYSTEM_ERR"
refusal_name (refusal.RpcMismatch low high) = codes "RPC_MISMATCH"
refusal_name (refusal.AuthError why) = codes "AUTH_ERROR"

abbrev pub accept_name : AcceptStat → List ℕ
accept_name accept.Success = codes "SUCCESS"
accept_name accept.ProgUnavail = codes "PROG_UNAVAIL"
accept_name accept.ProgMismatch = codes "PROG_MISMATCH"
accept_name accept.ProcUnavail = codes "PROC_UNAVAIL"
accept_name accept.GarbageArgs = codes "GARBAGE_ARGS"
accept_name accept.SystemErr = codes "SYSTEM_ERR"

abbrev pub reject_name : RejectStat → List ℕ
reject_name reject.RpcMismatch = codes "RPC_MISMATCH"
reject_name reject.AuthError = codes "AUTH_ERROR"

abbrev pub stat_name : Stat → List ℕ
stat_name (Accepted verf s) = accept_name s
stat_name (Denied s) = reject_name s
