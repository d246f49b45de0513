-- Pictures: a plot shows the image.
use Rattle.std.proofs.Common.{ℕ, Bool, arith}
use Rattle.cam_tiles.specs.Picture.{PlotLaw, pixels_of, plot_of}
use Rattle.cam_tiles.proofs.PbmLemmas.{length-pbm, take-pbm, all_bytes_pbm, pixel_set, padding_clear}
use Rattle.cam_tiles.proofs.WindowLemmas.{accepted}

pub plot_law : PlotLaw
unfolding plot_of
plot_law w image h =
    let black : ℕ → ℕ → Bool = pixels_of w image in
    let limits = accepted w h in
    record {
      head = take-pbm black w.width w.height;
      size = length-pbm black w.width w.height;
      values = all_bytes_pbm black w.width w.height (omega (arith, limits.width)) (omega (arith, limits.height));
      pixels = pixel_set black w.width w.height;
      padding = padding_clear black w.width w.height;
    }
