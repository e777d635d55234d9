-- what a crash leaves at each moment of a call
mod MomentLaws
-- what a call leaves of the output on the disk
mod FileLaws
-- the files of images, which the calls leave as they were
mod ImageLaws
-- an output beside calls on the image files
pub mod BesideLaws
