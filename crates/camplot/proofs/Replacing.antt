-- What paths hold after one call and another.
use Rattle.std.proofs.Common.{◌≡◌, ◌∙◌, ℕ, List, None, Some, refl, subst, sym}
use Rattle.cam_station.specs.Files.{MayHaveStored, Stored, ToldFiles}
use Rattle.camplot.specs.Disk.{HasMoved, IsNamed, IsReplaced, own_path}

-- a file that was made took another's path
pub made_and_moved : (old mid new : ToldFiles) (own path bytes : List ℕ) → Stored old mid own bytes → HasMoved mid new own path
    → IsReplaced old new own path bytes
made_and_moved None mid new own path bytes made moved = tt
made_and_moved (Some old) None new own path bytes made moved = absurd made
made_and_moved (Some old) (Some mid) None own path bytes made moved = absurd moved
made_and_moved (Some old) (Some mid) (Some new) own path bytes made moved =
    (moved.0 ∙ made.0, λ other one two. moved.1 other one two ∙ made.1 other one)

-- nothing changed
pub kept_is_lost : (old new : ToldFiles) (own : List ℕ) → new ≡ old → MayHaveStored old new own
kept_is_lost None new own same = tt
kept_is_lost (Some old) new own same = subst (λ (it : ToldFiles). MayHaveStored (Some old) it own) (sym same) (λ other one. refl)

-- two calls changed one path
pub lost_and_lost : (old mid new : ToldFiles) (own : List ℕ) → MayHaveStored old mid own → MayHaveStored mid new own
    → MayHaveStored old new own
lost_and_lost None mid new own one two = tt
lost_and_lost (Some old) None new own one two = absurd one
lost_and_lost (Some old) (Some mid) None own one two = absurd two
lost_and_lost (Some old) (Some mid) (Some new) own one two = λ other not. two other not ∙ one other not

-- what is stored may have been
pub stored_is_lost : (old new : ToldFiles) (own bytes : List ℕ) → Stored old new own bytes → MayHaveStored old new own
stored_is_lost None new own bytes made = tt
stored_is_lost (Some old) None own bytes made = absurd made
stored_is_lost (Some old) (Some new) own bytes made = made.1

-- one path was changed by the first call, and another has its bytes by the second
pub lost_and_stored : (old mid new : ToldFiles) (own path bytes : List ℕ) → MayHaveStored old mid own → Stored mid new path bytes
    → IsReplaced old new own path bytes
lost_and_stored None mid new own path bytes one two = tt
lost_and_stored (Some old) None new own path bytes one two = absurd one
lost_and_stored (Some old) (Some mid) None own path bytes one two = absurd two
lost_and_stored (Some old) (Some mid) (Some new) own path bytes one two =
    (two.0, λ other not this. two.1 other this ∙ one other not)

-- a path has its bytes
pub stored_is_replaced : (old new : ToldFiles) (own path bytes : List ℕ) → Stored old new path bytes → IsReplaced old new own path bytes
stored_is_replaced old new own path bytes made = lost_and_stored old old new own path bytes (kept_is_lost old old own refl) made

-- a file by its own path is the file by the path that was asked for
pub named_is_replaced : (old new : ToldFiles) (path real bytes : List ℕ) → IsNamed old path real
    → IsReplaced old new (own_path real) real bytes → IsReplaced old new (own_path path) path bytes
named_is_replaced None new path real bytes named is = tt
named_is_replaced (Some old) new path real bytes named is =
    subst (λ (it : List ℕ). IsReplaced (Some old) new (own_path it) it bytes) named is

pub named_is_lost : (old new : ToldFiles) (path real : List ℕ) → IsNamed old path real
    → MayHaveStored old new (own_path real) → MayHaveStored old new (own_path path)
named_is_lost None new path real named is = tt
named_is_lost (Some old) new path real named is =
    subst (λ (it : List ℕ). MayHaveStored (Some old) new (own_path it)) named is

-- what was kept before a path was written
pub kept_and_replaced : (old mid new : ToldFiles) (own path bytes : List ℕ) → mid ≡ old → IsReplaced mid new own path bytes
    → IsReplaced old new own path bytes
kept_and_replaced old mid new own path bytes same is = subst (λ (it : ToldFiles). IsReplaced it new own path bytes) same is

pub kept_and_lost : (old mid new : ToldFiles) (own : List ℕ) → mid ≡ old → MayHaveStored mid new own → MayHaveStored old new own
kept_and_lost old mid new own same is = subst (λ (it : ToldFiles). MayHaveStored it new own) same is

pub kept_and_stored : (old mid new : ToldFiles) (own bytes : List ℕ) → mid ≡ old → Stored mid new own bytes → Stored old new own bytes
kept_and_stored old mid new own bytes same is = subst (λ (it : ToldFiles). Stored it new own bytes) same is

pub lost_and_kept : (old mid new : ToldFiles) (own : List ℕ) → MayHaveStored old mid own → new ≡ mid → MayHaveStored old new own
lost_and_kept old mid new own is same = subst (λ (it : ToldFiles). MayHaveStored old it own) (sym same) is
