-- How many tiles an accepted window has, and which of them a pixel is in.
use Rattle.std.proofs.Common.{◌≡◌, ℕ, ◌<◌, ◌≤◌, true, arith}
use Rattle.std.proofs.lemmas.Nat.{mul-le, mul-add-lt}
use Rattle.cam_tiles.specs.declared.window.Window.{Window}
use Rattle.cam_tiles.specs.Picture.{accepts}
use Rattle.cam_tiles.specs.Tiles.{across, tiles_down, tile_of, tiles_of}
use Rattle.cam_tiles.proofs.WindowLemmas.{accepted}

pub some_across : (w : Window) → accepts w ≡ true → 0 < across w
some_across w h = let sound = accepted w h in omega (arith, sound.width.0)

pub few_across : (w : Window) → accepts w ≡ true → across w ≤ 512
few_across w h = let sound = accepted w h in omega (arith, sound.width.1)

pub few_down : (w : Window) → accepts w ≡ true → tiles_down w ≤ 512
few_down w h = let sound = accepted w h in omega (arith, sound.height.1)

pub few_tiles : (w : Window) → accepts w ≡ true → tiles_of w ≤ 262144
few_tiles w h = mul-le (across w) (tiles_down w) 512 512 (few_across w h) (few_down w h)

-- the tile of a pixel is one of the window's
pub tile_of-lt : (w : Window) (column row : ℕ) → column < w.width → row < w.height → tile_of w column row < tiles_of w
tile_of-lt w column row inside below = grind (arith, mul-add-lt)
