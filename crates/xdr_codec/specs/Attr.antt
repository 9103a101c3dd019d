-- Times and attributes (RFC 1813, section 2.6).
use Rattle.std.specs.Prelude.{◌≡◌, ℕ, zero, suc, Option, Some, None, refl}
use Rattle.xdr_codec.specs.declared.fault.Fault.TheVariants.{BadValue}
use Rattle.xdr_codec.specs.Format.{Format}
use Rattle.xdr_codec.specs.Compose.{◌⋆◌, mapped, refined}
use Rattle.xdr_codec.specs.Xdr.{u32_form, u64_form}
use Rattle.xdr_codec.specs.declared.attr.Kind.{Kind}
use Rattle.xdr_codec.specs.declared.attr.Kind.TheVariants.{File, Directory}
use Rattle.xdr_codec.specs.declared.attr.Time.{Time}
use Rattle.xdr_codec.specs.declared.attr.Attr.{Attr}

unfoldable pub time_form : Format Time
time_form = mapped (λ (s, n). record { seconds = s; nanoseconds = n }) (λ t. (t.seconds, t.nanoseconds)) (λ _. refl) (λ _. refl) (u32_form ⋆ u32_form)

abbrev pub kind_of : ℕ → Option Kind
kind_of zero = None
kind_of (suc zero) = Some File
kind_of (suc (suc zero)) = Some Directory
kind_of (suc (suc (suc n))) = None

abbrev pub kind_number : Kind → ℕ
kind_number File = 1
kind_number Directory = 2

pub kind_home : (k : Kind) → kind_of (kind_number k) ≡ Some k
kind_home File = refl
kind_home Directory = refl

pub kind_there : (n : ℕ) (k : Kind) → kind_of n ≡ Some k → kind_number k ≡ n
kind_there zero k e = absurd cc
kind_there (suc zero) File e = refl
kind_there (suc zero) Directory e = absurd cc
kind_there (suc (suc zero)) Directory e = refl
kind_there (suc (suc zero)) File e = absurd cc
kind_there (suc (suc (suc n))) k e = absurd cc

unfoldable pub kind_form : Format Kind
kind_form = refined kind_of kind_number BadValue kind_home kind_there u32_form

unfoldable pub attr_form : Format Attr
attr_form = mapped
    (λ (kind, (mode, (nlink, (uid, (gid, (size, (used, (major, (minor, (fsid, (fileid, (atime, (mtime, ctime))))))))))))). record { kind = kind; mode = mode; nlink = nlink; uid = uid; gid = gid; size = size; used = used; rdev_major = major; rdev_minor = minor; fsid = fsid; fileid = fileid; atime = atime; mtime = mtime; ctime = ctime })
    (λ a. (a.kind, (a.mode, (a.nlink, (a.uid, (a.gid, (a.size, (a.used, (a.rdev_major, (a.rdev_minor, (a.fsid, (a.fileid, (a.atime, (a.mtime, a.ctime))))))))))))))
    (λ _. refl) (λ _. refl)
    (kind_form ⋆ u32_form ⋆ u32_form ⋆ u32_form ⋆ u32_form ⋆ u64_form ⋆ u64_form ⋆ u32_form ⋆ u32_form ⋆ u64_form ⋆ u64_form ⋆ time_form ⋆ time_form ⋆ time_form)
